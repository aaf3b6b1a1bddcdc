use Rattle.std.proofs.Common.{◌≡◌, ℕ, ◌+◌, ◌-◌, ◌≤◌, Bool, List, take, ◌++◌, ◌∷◌, [], true, false}
use Rattle.std.proofs.Common.{cond, length, drop, ap, subst, sym, ◌∙◌}
use Rattle.ber_tlv.specs.Head.{BeginsWithHead}
use Rattle.package_reader.specs.ReaderState.{ReaderState, opens}
use Rattle.package_reader.proofs.Handing.{enters}
use Rattle.package_reader.proofs.elements.Elements.enter.Goals as goal
use Rattle.package_reader.proofs.elements.Elements.enter.Goals.{then-is_opened, else-is_opened}

pub returns : goal.returns
returns c =
    let h = c.args.head in
    let i = c.self.inside in
    let place : c.args.self.now.place ≡ i.read = ap (λ (s : ReaderState). s.place) (sym c.self.view_is) in
    let unread : c.args.self.now.unread ≡ drop i.read i.bytes.items = ap (λ (s : ReaderState). s.unread) (sym c.self.view_is) in
    let ends : i.ends.items ≡ c.args.self.now.ends = ap (λ (s : ReaderState). s.ends) c.self.view_is in
    let value : i.value ≡ c.args.self.now.value = ap (λ (s : ReaderState). s.value) c.self.view_is in
    let there : h.size ≤ length (drop i.read i.bytes.items) = subst (λ (ys : List ℕ). h.size ≤ length ys) unread c.requires.there in
    let begins = subst (λ (ys : List ℕ). BeginsWithHead ys h.tag h.length (drop h.size ys)) unread c.requires.begins in
    let none = value ∙ c.requires.value in
    let head = take (i.read + h.size - i.read) (drop i.read i.bytes.items) in
    let told : opens head ≡ c.is_opened.result = ap (λ (ys : List ℕ). opens (take (i.read + h.size - i.read) (drop i.read ys))) (sym c.deref.ensures.value) ∙ sym c.is_opened.ensures in
    let more : List ℕ = c.args.self.now.ends ++ (i.read + h.size + h.length) ∷ [] in
    elim c.if-is_opened.branch [
      | then-is_opened w ↦
          let yes : opens head ≡ true = told ∙ w.if-is_opened.true in
          enters c.args.self.now c.if-is_opened.self i.bytes.items i.read h.size h.tag h.length c.requires.unended c.requires.value place unread there begins c.requires.fits
          (ap (λ (s : ReaderState). s.place) w.self-is)
          (ap (λ (s : ReaderState). s.unread) w.self-is)
          (ap (λ (s : ReaderState). s.shown) w.self-is)
          (ap (λ (s : ReaderState). s.ends) w.self-is ∙ w.push_reserved.ensures.items ∙ ap (λ (es : List ℕ). es ++ (i.read + h.size + h.length) ∷ []) ends
          ∙ sym (ap (λ (b : Bool). cond b more c.args.self.now.ends) yes))
          (ap (λ (s : ReaderState). s.value) w.self-is ∙ none ∙ sym (ap (λ (b : Bool). cond b 0 h.length) yes))
      | else-is_opened w ↦
          let no : opens head ≡ false = told ∙ w.if-is_opened.false in
          enters c.args.self.now c.if-is_opened.self i.bytes.items i.read h.size h.tag h.length c.requires.unended c.requires.value place unread there begins c.requires.fits
          (ap (λ (s : ReaderState). s.place) w.self-is)
          (ap (λ (s : ReaderState). s.unread) w.self-is)
          (ap (λ (s : ReaderState). s.shown) w.self-is)
          (ap (λ (s : ReaderState). s.ends) w.self-is ∙ ends ∙ sym (ap (λ (b : Bool). cond b more c.args.self.now.ends) no))
          (ap (λ (s : ReaderState). s.value) w.self-is ∙ sym (ap (λ (b : Bool). cond b 0 h.length) no))
    ]
