-- The bytes of parts are taken from those that came, in order.
use Rattle.std.proofs.Common.{◌≡◌, ℕ, ◌+◌, List, [], ◌∷◌, ◌++◌, length, sym, ◌∙◌, ap, arith}
use Rattle.std.proofs.Common.{append_assoc, append-nil, length-append}
use Rattle.package_reader.specs.ReaderState.{ReaderState, fed}
use Rattle.package_reader.specs.Part.{HandsOut}
use Rattle.package_reader.specs.Turn.{Turn, GoesBy, pieces_of, part_bytes_of}
use Rattle.package_reader.specs.Turn.Turn.{Comes, Goes}
use Rattle.package_reader.specs.declared.part.Part.{Part}
use Rattle.package_reader.specs.declared.part.Part.TheVariants.{Head, Bytes, Close, More, Bad}

pub reads : (old new : ReaderState) (part : Part) → HandsOut old part new → old.unread ≡ new.shown ++ new.unread
reads old new (Head tag n place) h = h.takes.unread
reads old new (Bytes count) h = h.takes.unread
reads old new Close h = sym (ap (λ (s : ReaderState). s.shown ++ s.unread) h.rest)
reads old new More h = sym (ap (λ (s : ReaderState). s.shown ++ s.unread) h.stays)
reads old new (Bad place) h = sym (ap (λ (s : ReaderState). s.shown ++ s.unread) h.stays)

pub goes_on : (old new : ReaderState) (part : Part) → HandsOut old part new → new.place ≡ old.place + length new.shown
goes_on old new (Head tag n place) h = h.takes.place
goes_on old new (Bytes count) h = h.takes.place
goes_on old new Close h = let p = ap (λ (s : ReaderState). s.place) h.rest in let e = ap (λ (s : ReaderState). length s.shown) h.rest in omega arith
goes_on old new More h = let p = ap (λ (s : ReaderState). s.place) h.stays in let e = ap (λ (s : ReaderState). length s.shown) h.stays in omega arith
goes_on old new (Bad place) h = let p = ap (λ (s : ReaderState). s.place) h.stays in let e = ap (λ (s : ReaderState). length s.shown) h.stays in omega arith

pub came : (old new : ReaderState) (part : Part) → HandsOut old part new → new.place + length new.unread ≡ old.place + length old.unread
came old new part h =
    let a = goes_on old new part h in
    let b : length old.unread ≡ length new.shown + length new.unread = ap length (reads old new part h) ∙ length-append new.shown new.unread in
    omega arith

pub joined : (old : ReaderState) (turns : List Turn) (new : ReaderState) → GoesBy old turns new → old.unread ++ pieces_of turns ≡ part_bytes_of turns ++ new.unread
joined old [] new h = simp append-nil (ap (λ (s : ReaderState). s.unread) h)
joined old (Comes piece ∷ turns) new h = sym (append_assoc old.unread piece (pieces_of turns)) ∙ joined (fed old piece) turns new h
joined old (Goes part bytes ∷ turns) new h =
    let next = h.0 in
    ap (λ (ys : List ℕ). ys ++ pieces_of turns) (reads old next part h.1)
    ∙ append_assoc next.shown next.unread (pieces_of turns)
    ∙ ap (λ (ys : List ℕ). next.shown ++ ys) (joined next turns new h.3)
    ∙ ap (λ (ys : List ℕ). ys ++ (part_bytes_of turns ++ new.unread)) (sym h.2)
    ∙ sym (append_assoc bytes (part_bytes_of turns) new.unread)
