-- Of the bytes of a package there is one way to take the parts, and so one answer.
use Rattle.std.proofs.Common.{◌≡◌, ℕ, ◌+◌, Bool, false, cond, List, [], ◌∷◌, ◌++◌, length, refl}
use Rattle.std.proofs.Common.{sym, ◌∙◌, ap, subst, ⊎_elim, Result, arith}
use Rattle.std.proofs.lemmas.Bool.{true≢false}
use Rattle.std.proofs.lemmas.List.{append_cancel_left, append_cancel_right}
use Rattle.file_rows.specs.declared.content.Content.{Content}
use Rattle.ber_tlv.proofs.Heads.{same_head}
use Rattle.package_reader.proofs.OnePart.{one_part}
use Rattle.package_reader.specs.Part.{HandsOut, HandsOutBytes, HandsOutClose, HandsOutHead}
use Rattle.package_reader.specs.ReaderState.{ReaderState, fed, fresh_reader, opens}
use Rattle.package_reader.specs.Turn.{GoesBy, Turn}
use Rattle.package_reader.specs.Turn.Turn.{Comes, Goes}
use Rattle.package_reader.specs.declared.part.Part.{Part}
use Rattle.package_reader.specs.declared.part.Part.TheVariants.{Head, Bytes, Close, More, Bad}
use Rattle.profile_install.specs.Package.{AllWhole, HasNoPart, PackageGives, after_turns}
use Rattle.profile_install.specs.Package.{fresh_work, is_last, is_used_up, work_outcome}
use Rattle.profile_install.specs.declared.work.Refusal.{Refusal}

-- equal fields make equal states
alike : (a b : ReaderState) → a.place ≡ b.place → a.unread ≡ b.unread → a.value ≡ b.value
    → a.ends ≡ b.ends → a.shown ≡ b.shown → a ≡ b
alike a b p u v e s =
    ap (λ (x : ℕ). let r : ReaderState = record
    { place = x; unread = a.unread; value = a.value; ends = a.ends; shown = a.shown } in r) p
    ∙ ap (λ (x : List ℕ). let r : ReaderState = record
    { place = b.place; unread = x; value = a.value; ends = a.ends; shown = a.shown } in r) u
    ∙ ap (λ (x : ℕ). let r : ReaderState = record
    { place = b.place; unread = b.unread; value = x; ends = a.ends; shown = a.shown } in r) v
    ∙ ap (λ (x : List ℕ). let r : ReaderState = record
    { place = b.place; unread = b.unread; value = b.value; ends = x; shown = a.shown } in r) e
    ∙ ap (λ (x : List ℕ). let r : ReaderState = record
    { place = b.place; unread = b.unread; value = b.value; ends = b.ends; shown = x } in r) s

-- a front is known by its length
same_front : (xs ys us vs : List ℕ) → xs ++ us ≡ ys ++ vs → length xs ≡ length ys → xs ≡ ys
same_front [] [] us vs e l = refl
same_front [] (y ∷ ys) us vs e l = absurd (omega arith)
same_front (x ∷ xs) [] us vs e l = absurd (omega arith)
same_front (x ∷ xs) (y ∷ ys) us vs e l =
    let first : x ≡ y = cc in
    let rest : xs ++ us ≡ ys ++ vs = cc in
    let more : xs ≡ ys = same_front xs ys us vs rest (omega arith) in
    cc

head_next : (old new other : ReaderState) (tag n place : ℕ) → HandsOutHead old tag n place new
    → HandsOutHead old tag n place other → new ≡ other
head_next old new other tag n place h k =
    let unread : new.unread ≡ other.unread = (same_head _ _ _ _ _ _ _ h.head k.head).2 in
    let shown : new.shown ≡ other.shown =
    append_cancel_right new.shown other.shown other.unread
    (ap (λ (s : List ℕ). new.shown ++ s) (sym unread) ∙ sym h.takes.unread ∙ k.takes.unread) in
    let here : new.place ≡ other.place = h.takes.place ∙ ap (λ (s : List ℕ). old.place + length s)
    shown ∙ sym k.takes.place in
    let ends : new.ends ≡ other.ends =
    h.ends ∙ ap (λ (b : Bool). cond b (old.ends ++ (new.place + n) ∷ []) old.ends) (ap opens shown)
    ∙ ap (λ (p : ℕ). cond (opens other.shown) (old.ends ++ (p + n) ∷ []) old.ends) here ∙ sym
    k.ends in
    let value : new.value ≡ other.value = h.value ∙ ap (λ (b : Bool). cond b 0 n) (ap opens shown)
    ∙ sym k.value in
    alike new other here unread value ends shown

bytes_next : (old new other : ReaderState) (count : ℕ) → HandsOutBytes old count new
    → HandsOutBytes old count other → new ≡ other
bytes_next old new other count h k =
    let shown : new.shown ≡ other.shown = same_front new.shown other.shown new.unread other.unread
    (sym h.takes.unread ∙ k.takes.unread) (h.shown ∙ sym k.shown) in
    let unread : new.unread ≡ other.unread =
    append_cancel_left other.shown new.unread other.unread
    (ap (λ (s : List ℕ). s ++ new.unread) (sym shown) ∙ sym h.takes.unread ∙ k.takes.unread) in
    let here : new.place ≡ other.place = h.takes.place ∙ ap (λ (s : List ℕ). old.place + length s)
    shown ∙ sym k.takes.place in
    let value : new.value ≡ other.value = omega (arith, h.value, k.value) in
    alike new other here unread value (h.ends ∙ sym k.ends) shown

close_next : (old new other : ReaderState) → HandsOutClose old new → HandsOutClose old other
    → new ≡ other
close_next old new other h k =
    let ends : new.ends ≡ other.ends = append_cancel_right new.ends other.ends (old.place ∷ [])
    (sym h.ends ∙ k.ends) in
    h.rest ∙ ap (λ (e : List ℕ). record old { ends = e; shown = [] }) ends ∙ sym k.rest

-- a part leaves one state
next_state : (old new other : ReaderState) (part : Part) → HandsOut old part new
    → HandsOut old part other → new ≡ other
next_state old new other (Head tag n place) h k = head_next old new other tag n place h k
next_state old new other (Bytes count) h k = bytes_next old new other count h k
next_state old new other Close h k = close_next old new other h k
next_state old new other More h k = h.stays ∙ sym k.stays
next_state old new other (Bad place) h k = h.stays ∙ sym k.stays

-- where a part comes that is no last one, parts are left
has_part : (old new : ReaderState) (part : Part) → HandsOut old part new → is_last part ≡ false
    → ¬ HasNoPart old
has_part old new part h e none =
    ⊎_elim (λ more. let same : More ≡ part = one_part old none.0 new More part more h in
    absurd (true≢false (ap is_last same ∙ e)))
    (λ bad. let same : Bad bad.0 ≡ part = one_part old none.0 new (Bad bad.0) part bad.1 h in
    absurd (true≢false (ap is_last same ∙ e)))
    none.1

-- the parts, and where the reader then stands, are one
pub same_parts : (old a b : ReaderState) (s t : List Turn) → GoesBy old s a → AllWhole s
    → HasNoPart a → GoesBy old t b → AllWhole t → HasNoPart b → (s ≡ t) × (a ≡ b)
same_parts old a b [] [] g w n h v m = (refl, sym g ∙ h)
same_parts old a b [] (Comes piece ∷ t) g w n h v m = absurd v
same_parts old a b [] (Goes part bytes ∷ t) g w n h v m =
    absurd (has_part old h.0 part h.1 v.0 (subst (λ (r : ReaderState). HasNoPart r) (sym g) n))
same_parts old a b (Comes piece ∷ s) t g w n h v m = absurd w
same_parts old a b (Goes part bytes ∷ s) [] g w n h v m =
    absurd (has_part old g.0 part g.1 w.0 (subst (λ (r : ReaderState). HasNoPart r) (sym h) m))
same_parts old a b (Goes part bytes ∷ s) (Comes piece ∷ t) g w n h v m = absurd v
same_parts old a b (Goes part bytes ∷ s) (Goes other its ∷ t) g w n h v m =
    let part_is : part ≡ other = one_part old g.0 h.0 part other g.1 h.1 in
    let next_is : h.0 ≡ g.0 = next_state old h.0 g.0 part
    (subst (λ (p : Part). HandsOut old p h.0) (sym part_is) h.1) g.1 in
    let bytes_is : bytes ≡ its = g.2 ∙ ap (λ (r : ReaderState). r.shown) (sym next_is) ∙ sym h.2 in
    let rest = same_parts g.0 a b s t g.3 w.1 n
    (subst (λ (r : ReaderState). GoesBy r t b) next_is h.3) v.1 m in
    let turns_is : s ≡ t = rest.0 in
    (cc, rest.1)

pub one_answer : (iccid bytes : List ℕ) (a b : Result Content Refusal) → PackageGives iccid bytes a
    → PackageGives iccid bytes b → a ≡ b
one_answer iccid bytes a b g h =
    let same = same_parts (fed fresh_reader bytes) g.last h.last g.turns h.turns g.parts.goes
    g.parts.whole g.parts.ends h.parts.goes h.parts.whole h.parts.ends in
    g.meant ∙ ap (λ (ts : List Turn). work_outcome (after_turns iccid fresh_work ts)
    (is_used_up g.last.unread)) same.0
    ∙ ap (λ (r : ReaderState). work_outcome (after_turns iccid fresh_work h.turns)
    (is_used_up r.unread)) same.1 ∙ sym h.meant
