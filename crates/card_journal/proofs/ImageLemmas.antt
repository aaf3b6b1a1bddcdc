-- What an image holds.
use Rattle.std.proofs.Common.{◌≡◌, ℕ, ◌<◌, ◌^◌, List, [], ◌∷◌, ◌++◌, length, refl, sym, ◌∙◌, ap}
use Rattle.std.proofs.Common.{subst}
use Rattle.card_journal.specs.Image.{AreCodings, Follow, HoldsCard, Leave, MakesCard, live_bytes}
use Rattle.flash_pages.specs.Rows.{HasRows}
use Rattle.flash_pages.proofs.Unique.{unique}
use Rattle.record_codec.specs.Apply.{apply, fold}
use Rattle.record_codec.specs.FitsCard.{FitsCard}
use Rattle.record_codec.specs.IsDurable.{IsDurable}
use Rattle.record_codec.specs.Sizes.{Codes}
use Rattle.record_codec.specs.declared.durable.Durable.{Durable}
use Rattle.record_codec.specs.declared.record.Record.{Record}
use Rattle.record_codec.proofs.AgainLemmas.{one_record}

-- bodies are the codings of one list of records
pub one_list : (bodies : List (List ℕ)) (one other : List Record) → AreCodings bodies one → AreCodings bodies other → one ≡ other
one_list [] [] [] first second = refl
one_list [] (entry ∷ entries) other first second = absurd first
one_list [] [] (entry ∷ entries) first second = absurd second
one_list (body ∷ bodies) [] other first second = absurd first
one_list (body ∷ bodies) (entry ∷ entries) [] first second = absurd second
one_list (body ∷ bodies) (entry ∷ entries) (its ∷ others) first second =
    ap (λ (e : Record). e ∷ entries) (one_record body entry its first.0 second.0)
    ∙ ap (λ (es : List Record). its ∷ es) (one_list bodies entries others first.1 second.1)

-- and they leave one card
one_left : (entries : List Record) (one other : Durable) → Leave entries one → Leave entries other → one ≡ other
one_left [] one other first second = absurd first
one_left (entry ∷ entries) one other first second =
    let begun : first.0 ≡ second.0 = first.1.after one ∙ sym (second.1.after one) in
    first.3 ∙ ap (λ (d : Durable). fold d entries) begun ∙ sym second.3

pub one_card : (image : List ℕ) (one other : Durable) → length (live_bytes image) < 2 ^ 32 → HoldsCard image one → HoldsCard image other → one ≡ other
one_card image one other fits first second =
    let bodies : first.bodies ≡ second.bodies = unique (live_bytes image) first.bodies second.bodies fits first.rows second.rows in
    let entries : first.entries ≡ second.entries =
    one_list second.bodies first.entries second.entries (subst (λ (bs : List (List ℕ)). AreCodings bs first.entries) bodies first.codings) second.codings in
    one_left second.entries one other (subst (λ (es : List Record). Leave es one) entries first.left) second.left

-- what records leave is what a card may hold
folded : (held : Durable) (entries : List Record) → IsDurable held → Follow held entries → IsDurable (fold held entries)
folded held [] is follow = is
folded held (entry ∷ entries) is follow = folded (apply held entry) entries follow.1.after follow.2

valid_left : (entries : List Record) (held : Durable) → Leave entries held → IsDurable held
valid_left [] held left = absurd left
valid_left (first ∷ entries) held left = subst IsDurable (sym left.3) (folded left.0 entries left.1.valid left.2)

pub valid : (image : List ℕ) (held : Durable) → HoldsCard image held → IsDurable held
valid image held holds = valid_left holds.entries held holds.left

pub codings_more : (bodies : List (List ℕ)) (entries : List Record) (body : List ℕ) (entry : Record) → AreCodings bodies entries → Codes body entry
    → AreCodings (bodies ++ body ∷ []) (entries ++ entry ∷ [])
codings_more [] [] body entry are codes = (codes, tt)
codings_more [] (its ∷ entries) body entry are codes = absurd are
codings_more (one ∷ bodies) [] body entry are codes = absurd are
codings_more (one ∷ bodies) (its ∷ entries) body entry are codes = (are.0, codings_more bodies entries body entry are.1 codes)

pub follow_more : (held : Durable) (entries : List Record) (entry : Record) → Follow held entries → (MakesCard entry → ⊥) → FitsCard (fold held entries) entry
    → Follow held (entries ++ entry ∷ [])
follow_more held [] entry follow old fits = (old, fits, tt)
follow_more held (its ∷ entries) entry follow old fits = (follow.0, follow.1, follow_more (apply held its) entries entry follow.2 old fits)

pub fold_more : (held : Durable) (entries : List Record) (entry : Record) → fold held (entries ++ entry ∷ []) ≡ apply (fold held entries) entry
fold_more held [] entry = refl
fold_more held (its ∷ entries) entry = fold_more (apply held its) entries entry

pub left_more : (entries : List Record) (held : Durable) (entry : Record) → Leave entries held → (MakesCard entry → ⊥) → FitsCard held entry
    → Leave (entries ++ entry ∷ []) (apply held entry)
left_more [] held entry left old fits = absurd left
left_more (first ∷ entries) held entry left old fits = (
  left.0,
  left.1,
  follow_more left.0 entries entry left.2 old (subst (λ (d : Durable). FitsCard d entry) left.3 fits),
  ap (λ (d : Durable). apply d entry) left.3 ∙ sym (fold_more left.0 entries entry),
)

-- one more record in a row behind the others
pub appended : (before after : List ℕ) (held : Durable) (entry : Record) (body : List ℕ) → (holds : HoldsCard before held)
    → HasRows (live_bytes after) (holds.bodies ++ body ∷ []) → Codes body entry → (MakesCard entry → ⊥) → FitsCard held entry
    → HoldsCard after (apply held entry)
appended before after held entry body holds rows codes old fits = record {
  bodies = holds.bodies ++ body ∷ [];
  entries = holds.entries ++ entry ∷ [];
  rows = rows;
  codings = codings_more holds.bodies holds.entries body entry holds.codings codes;
  left = left_more holds.entries held entry holds.left old fits;
}
