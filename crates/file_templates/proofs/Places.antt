-- The table of keys finds each row where it stands in the list.
use Rattle.std.proofs.Common.{◌≡◌, ℕ, zero, suc, ◌+◌, ◌*◌, ◌/◌, ◌<◌, Bool, true, false, ◌&&◌, ◌==◌}
use Rattle.std.proofs.Common.{cond, eqb, List, [], ◌∷◌, length, drop, map, Option, Some, refl, ◌∙◌}
use Rattle.std.proofs.Common.{ap, arith}
use Rattle.std.specs.Prelude.{slice_get, find, fold, count_by, nat_lt, option_and_then}
use Rattle.std.specs.Option.{option_map}
use Rattle.std.specs.List.{list_all}
use Rattle.std.proofs.lemmas.Bool.Decides.{nat_tests}
use Rattle.case_table.specs.CaseRows.{first_value}
use Rattle.file_templates.specs.declared.template_row.Row.{Row}
use Rattle.file_templates.specs.declared.table.TheConstants.{TEMPLATE_ROWS, ROWS}
use Rattle.file_templates.specs.Templates.{TemplateRow, template_rows, is_row_at, row_at, row_count}

abbrev pub key_of : TemplateRow → ℕ
key_of row = row.template * 256 + row.row.position

abbrev pub file_of : TemplateRow → Row
file_of row = row.row

-- the numbers from i on
abbrev pub upto : ℕ → ℕ → List ℕ
upto i zero = []
upto i (suc n) = i ∷ upto (suc i) n

abbrev pub short : TemplateRow → Bool
short row = nat_lt row.row.position 256

both : (a b : Bool) → (a && b) ≡ true → (a ≡ true) × (b ≡ true)
both true b h = (refl, h)
both false b h = (h, absurd (cc))

-- what stands at a place
here : (all : List Row) (i : ℕ) (x : Row) (xs : List Row) → drop i all ≡ x ∷ xs → slice_get all i ≡ Some x
here [] zero x xs e = absurd (cc)
here [] (suc i) x xs e = absurd (cc)
here (y ∷ all) zero x xs e = let h : y ≡ x = cc in ap Some h
here (y ∷ all) (suc i) x xs e = here all i x xs e

behind : (all : List Row) (i : ℕ) (x : Row) (xs : List Row) → drop i all ≡ x ∷ xs → drop (suc i) all ≡ xs
behind [] zero x xs e = absurd (cc)
behind [] (suc i) x xs e = absurd (cc)
behind (y ∷ all) zero x xs e = cc
behind (y ∷ all) (suc i) x xs e = behind all i x xs e

-- a key is a template's and a position's
same_key : (a p b q : ℕ) → p < 256 → q < 256 → eqb (a * 256 + p) (b * 256 + q) ≡ (eqb a b && eqb p q)
same_key a p b q h k = grind (arith, nat_tests)

of_key : (a p t : ℕ) → p < 256 → eqb ((a * 256 + p) / 256) t ≡ eqb a t
of_key a p t h = let e : (a * 256 + p) / 256 ≡ a = omega arith in ap (λ n. eqb n t) e

is_short : (p : ℕ) → nat_lt p 256 ≡ true → p < 256
is_short p h = grind (arith, nat_tests)

step : (all : List Row) (r : TemplateRow) (rows : List TemplateRow) (i template position : ℕ) → drop i all ≡ file_of r ∷ map file_of rows → (a b : Bool) → a ≡ b
    → option_and_then (slice_get all) (first_value (map key_of rows) (upto (suc i) (length rows)) (template * 256 + position))
    ≡ option_map file_of (find (is_row_at template position) rows)
    → option_and_then (slice_get all) (cond a (Some i) (first_value (map key_of rows) (upto (suc i) (length rows)) (template * 256 + position)))
    ≡ option_map file_of (cond b (Some r) (find (is_row_at template position) rows))
step all r rows i template position e true true q rest = here all i r.row (map file_of rows) e
step all r rows i template position e true false q rest = absurd (cc)
step all r rows i template position e false true q rest = absurd (cc)
step all r rows i template position e false false q rest = rest

pub found : (all : List Row) (rows : List TemplateRow) (i template position : ℕ)
    → drop i all ≡ map file_of rows → list_all short rows ≡ true → position < 256
    → option_and_then (slice_get all) (first_value (map key_of rows) (upto i (length rows)) (template * 256 + position))
    ≡ option_map file_of (find (is_row_at template position) rows)
found all [] i template position e s h = refl
found all (r ∷ rows) i template position e s h =
    let b = both (short r) (list_all short rows) s in
    let k = same_key r.template r.row.position template position (is_short r.row.position b.0) h in
    step all r rows i template position e (eqb (key_of r) (template * 256 + position)) (is_row_at template position r) k
    (found all rows (suc i) template position (behind all i r.row (map file_of rows) e) b.1 h)

counted : (rows : List TemplateRow) (before template : ℕ) → list_all short rows ≡ true
    → fold (λ n key. n + cond (eqb (key / 256) template) 1 0) before (map key_of rows)
    ≡ fold (λ n row. n + cond (eqb row.template template) 1 0) before rows
counted [] before template s = refl
counted (r ∷ rows) before template s =
    let b = both (short r) (list_all short rows) s in
    let k : before + cond (eqb ((r.template * 256 + r.row.position) / 256) template) 1 0 ≡ before + cond (eqb r.template template) 1 0
    = ap (λ same. before + cond same 1 0) (of_key r.template r.row.position template (is_short r.row.position b.0)) in
    ap (λ n. fold (λ n key. n + cond (eqb (key / 256) template) 1 0) n (map key_of rows)) k
    ∙ counted rows (before + cond (eqb r.template template) 1 0) template b.1

pub keys_are : TEMPLATE_ROWS.keys ≡ map key_of template_rows
unfolding template_rows
keys_are = refl

pub places_are : TEMPLATE_ROWS.values ≡ upto 0 (length template_rows)
unfolding template_rows
places_are = refl

pub rows_are : ROWS ≡ map file_of template_rows
unfolding template_rows
rows_are = refl

pub are_short : list_all short template_rows ≡ true
unfolding template_rows
are_short = refl

-- what the table finds is the row at the position
pub in_table : (template position key : ℕ) (place : Option ℕ) → position < 256 → key ≡ template * 256 + position
    → place ≡ first_value TEMPLATE_ROWS.keys TEMPLATE_ROWS.values key
    → option_and_then (slice_get ROWS) place ≡ row_at template position
in_table template position key place h k e =
    ap (option_and_then (slice_get ROWS)) (e ∙ ap (first_value TEMPLATE_ROWS.keys TEMPLATE_ROWS.values) k
    ∙ ap (λ ks. first_value ks TEMPLATE_ROWS.values (template * 256 + position)) keys_are
    ∙ ap (λ vs. first_value (map key_of template_rows) vs (template * 256 + position)) places_are)
    ∙ found ROWS template_rows 0 template position rows_are are_short h

-- as many keys as rows are the template's
pub in_keys : (template : ℕ) → count_by (λ key. key / 256 == template) TEMPLATE_ROWS.keys ≡ row_count template
in_keys template = ap (count_by (λ key. key / 256 == template)) keys_are ∙ counted template_rows 0 template are_short
