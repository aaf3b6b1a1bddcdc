use Rattle.std.proofs.Common.{◌≡◌, ◌∙◌, refl, sym, subst}
use Rattle.file_rows.specs.Change.{changed, file_after, with_file}
use Rattle.file_rows.specs.declared.change.Change.{Change}
use Rattle.card_journal.proofs.PoolApplyLemmas.{record_can_change, size_can_change}
use Rattle.card_journal.proofs.pool.pooled.PooledContent.apply.Goals as goal

pub change_file-requires-in-WriteRecord-clause-can :
    goal.change_file-requires-in-WriteRecord-clause-can
change_file-requires-in-WriteRecord-clause-can c =
    let it = c.in-WriteRecord in
    record_can_change c.args.self.now it.path it.number it.bytes c.args.change.now it.is c.requires.valid c.requires.fits

pub change_file-requires-in-FileSize-clause-can : goal.change_file-requires-in-FileSize-clause-can
change_file-requires-in-FileSize-clause-can c =
    let it = c.in-FileSize in
    size_can_change c.args.self.now it.path it.size c.args.change.now it.is c.requires.valid c.requires.fits

pub returns-in-WriteRange : goal.returns-in-WriteRange
returns-in-WriteRange c =
    let content = c.args.self.now in
    let it = c.in-WriteRange in
    c.change_file.ensures
    ∙ subst (λ (change : Change). record content { rows = with_file it.path (file_after change) content.rows } ≡ changed content change) (sym it.is) refl

pub returns-in-WriteRecord : goal.returns-in-WriteRecord
returns-in-WriteRecord c =
    let content = c.args.self.now in
    let it = c.in-WriteRecord in
    c.change_file-in-WriteRecord.ensures
    ∙ subst (λ (change : Change). record content { rows = with_file it.path (file_after change) content.rows } ≡ changed content change) (sym it.is) refl

pub returns-in-FileState : goal.returns-in-FileState
returns-in-FileState c =
    let content = c.args.self.now in
    let it = c.in-FileState in
    c.change_file-in-FileState.ensures
    ∙ subst (λ (change : Change). record content { rows = with_file it.path (file_after change) content.rows } ≡ changed content change) (sym it.is) refl

pub returns-in-FileSize : goal.returns-in-FileSize
returns-in-FileSize c =
    let content = c.args.self.now in
    let it = c.in-FileSize in
    c.change_file-in-FileSize.ensures
    ∙ subst (λ (change : Change). record content { rows = with_file it.path (file_after change) content.rows } ≡ changed content change) (sym it.is) refl
