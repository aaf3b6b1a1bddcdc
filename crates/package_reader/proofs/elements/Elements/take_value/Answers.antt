use Rattle.std.proofs.Common.{◌≡◌, ◌≤◌, ◌+◌, min, length, drop, ap, subst, sym, ◌∙◌, refl, arith}
use Rattle.package_reader.specs.ReaderState.{ReaderState, IsAtClose}
use Rattle.package_reader.proofs.Handing.{next_bytes, as_many}
use Rattle.package_reader.proofs.elements.Elements.take_value.Goals as goal

pub returns : goal.returns
returns c =
    let i = c.self.inside in
    let unended = subst (λ (s : ReaderState). ¬ IsAtClose s) (sym c.self.view_is) c.requires.unended in
    let n = c.min-count.result in
    let u : c.unread.result.now ≡ drop i.read i.bytes.items = c.unread.ensures ∙ ap (λ (s : ReaderState). s.unread) (sym c.self.view_is) in
    let l : length c.unread.result.now ≡ length (drop i.read i.bytes.items) = ap length u in
    let few : n ≤ length (drop i.read i.bytes.items) = omega arith in
    let many = as_many i.bytes.items i.read n few in
    rw (← c.self.view_is)
    (record {
      unended = unended;
      some = omega arith;
      most = c.min-count.ensures ∙ ap (λ k. min i.value k) l;
      takes = record { unread = next_bytes i.bytes.items i.read n; place = ap (λ k. i.read + k) (sym many) };
      shown = many;
      value = omega arith;
      ends = refl;
    })
