use Rattle.std.proofs.Common.{◌≡◌, ◌+◌, ◌≤◌, ℕ, List, length, IfSome, ap, subst, arith}
use Rattle.card_journal.specs.Made.{IsBlank}
use Rattle.flash_pages.specs.Append.{AppendsRow, LeavesTornRow}
use Rattle.flash_pages.specs.Bytes.{IsErased}
use Rattle.flash_pages.specs.declared.bank.Bank.{Bank}
use Rattle.flash_pages.proofs.Touched.{at_some, flash_size, from_each}
use Rattle.record_codec.proofs.LengthLemmas.{short_where}
use Rattle.record_codec.proofs.SizeLemmas.{sizes_of}
use Rattle.record_codec.specs.Spelling.{spelling}
use Rattle.card_journal.proofs.MakeLemmas.{begun_fits, ends_at, first_blank, first_ends}
use Rattle.card_journal.proofs.MakeLemmas.{first_images, place_at}
use Rattle.card_journal.proofs.make.append_first.Goals as goal

pub new-body-requires : goal.new-body-requires
new-body-requires g c =
    let begins = c.requires.begins in
    let entry = c.args.entry.now in
    let fits = begun_fits entry begins.0 begins.1 in
    record {
      sizes = sizes_of begins.0 entry fits;
      few = λ coding. omega (arith, short_where begins.0 entry fits coding);
    }

pub append_row-requires-clause-fits : goal.append_row-requires-clause-fits
append_row-requires-clause-fits g c =
    let begins = c.requires.begins in
    let entry = c.args.entry.now in
    let first : c.bank_of.result.first ≡ 1 = ap (λ (b : Bank). b.first) c.bank_of.ensures in
    let blocks : c.bank_of.result.blocks ≡ 1216 = ap (λ (b : Bank). b.blocks) c.bank_of.ensures in
    omega (arith, short_where begins.0 entry (begun_fits entry begins.0 begins.1) c.new-body.ensures.codes.values, ap length c.new-body.ensures.coding)

pub append_row-requires-clause-erased : goal.append_row-requires-clause-erased
append_row-requires-clause-erased g c =
    let begins = c.requires.begins in
    let entry = c.args.entry.now in
    let start = g.F.Flash.state c.args.flash.now in
    let short = short_where begins.0 entry (begun_fits entry begins.0 begins.1) c.new-body.ensures.codes.values in
    let len : ℕ = length (spelling entry) in
    let erased : IfSome start.bytes (IsErased 4096 (5 + len)) =
    from_each start.bytes _ (λ image is.
    first_blank image (flash_size 2433 start (g.met.F.Flash.lawful c.args.flash.now) image is) (at_some start.bytes IsBlank image is c.requires.blank)
    (5 + len) (omega (arith, short))) in
    rw c.new-body.ensures.coding erased

pub returns : goal.returns
returns g c =
    let start = g.F.Flash.state c.args.flash.now in
    let after = g.F.Flash.state c.append_row.new.flash in
    let begins = c.requires.begins in
    let entry = c.args.entry.now in
    let codes = c.new-body.ensures.codes in
    let coding = c.new-body.ensures.coding in
    let short = short_where begins.0 entry (begun_fits entry begins.0 begins.1) codes.values in
    let len : ℕ = length (spelling entry) in
    let result = c.append_row.result in
    let lawful = g.met.F.Flash.lawful c.args.flash.now in
    let appends : AppendsRow 4096 (spelling entry) start after result =
    subst (λ (l : List ℕ). AppendsRow 4096 l start after result) coding c.append_row.ensures.appends in
    let torn : LeavesTornRow 4096 (spelling entry) start after =
    subst (λ (l : List ℕ). LeavesTornRow 4096 l start after) coding c.append_row.ensures.torn in
    let next = rw coding at c.append_row.ensures.next in
    let fits : 4096 + 5 + len ≤ 4984832 = omega (arith, short) in
    record {
      place = place_at result (4096 + 5 + len) next (record { from_start = omega arith; to_end = omega arith });
      ends = ends_at result after entry (4096 + 5 + len) next (λ held begun.
          first_ends start after lawful (spelling entry) entry result c.requires.blank codes fits appends torn held begun);
      settled = appends.settled;
      images = λ held begun. first_images start after lawful (spelling entry) entry result c.requires.blank codes fits appends torn held begun;
      time = appends.touches.time;
      cause = c.append_row.ensures.cause;
    }
