-- Marks, one after another.
use Rattle.std.proofs.Common.{◌≡◌, ℕ, ◌+◌, List, [], ◌∷◌, ◌++◌, refl, sym, ap, ◌∙◌, subst, arith}
use Rattle.std.specs.List.{range_with_len}
use Rattle.std.proofs.lemmas.List.{map-id}
use Rattle.std.proofs.lemmas.List.FromFn.{map-range_with_len_more}
use Rattle.card_book.specs.Marks.{MarkedInTurn}
use Rattle.card_book.specs.declared.entry.HistoryEntry.{HistoryEntry}

-- the ports up to the next one
ports_more : (count : ℕ)
    → range_with_len 0 (count + 1) ≡ range_with_len 0 count ++ count ∷ []
ports_more count =
    sym (map-id (range_with_len 0 (count + 1)))
    ∙ map-range_with_len_more (λ port. port) 0 count count (omega arith)
    ∙ ap (λ ports. ports ++ count ∷ []) (map-id (range_with_len 0 count))

module _ {L : Type 0} (marked : L → ℕ → List HistoryEntry → L → Type 0)
    (history : List HistoryEntry) where
  one_more_mark : (ports : List ℕ) (port : ℕ) (old mid new : L)
      → MarkedInTurn marked history ports old mid → marked mid port history new
      → MarkedInTurn marked history (ports ++ port ∷ []) old new
  one_more_mark [] port old mid new same marks =
      (new, subst (λ from. marked from port history new) same marks, refl)
  one_more_mark (first ∷ ports) port old mid new (next, first_marks, rest) marks =
      (next, first_marks, one_more_mark ports port next mid new rest marks)

  pub next_port_marks : (count : ℕ) (old mid new : L)
      → MarkedInTurn marked history (range_with_len 0 count) old mid
      → marked mid count history new
      → MarkedInTurn marked history (range_with_len 0 (count + 1)) old new
  next_port_marks count old mid new before marks =
      subst (λ ports. MarkedInTurn marked history ports old new) (sym (ports_more count))
      (one_more_mark (range_with_len 0 count) count old mid new before marks)
