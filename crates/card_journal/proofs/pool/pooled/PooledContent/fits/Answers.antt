use Rattle.file_rows.proofs.ConditionLemmas.{fits_tested}
use Rattle.card_journal.proofs.pool.pooled.PooledContent.fits.Goals as goal

pub returns-in-WriteRange : goal.returns-in-WriteRange
returns-in-WriteRange c =
    fits_tested c.args.self.now _ _ _ c.requires c.in-WriteRange.is c.is_inside_body.ensures

pub returns-in-WriteRecord : goal.returns-in-WriteRecord
returns-in-WriteRecord c =
    fits_tested c.args.self.now _ _ _ c.requires c.in-WriteRecord.is c.is_record_of.ensures

pub returns-in-PinSet : goal.returns-in-PinSet
returns-in-PinSet c =
    fits_tested c.args.self.now _ _ _ c.requires c.in-PinSet.is c.is_pin_of.ensures

pub returns-in-FileAdd : goal.returns-in-FileAdd
returns-in-FileAdd c =
    fits_tested c.args.self.now _ _ _ c.requires c.in-FileAdd.is c.is_new_file.ensures

pub returns-in-FileGone : goal.returns-in-FileGone
returns-in-FileGone c =
    fits_tested c.args.self.now _ _ _ c.requires c.in-FileGone.is c.has_file.ensures

pub returns-in-FileState : goal.returns-in-FileState
returns-in-FileState c =
    fits_tested c.args.self.now _ _ _ c.requires c.in-FileState.is c.has_file-in-FileState.ensures

pub returns-in-FileSize : goal.returns-in-FileSize
returns-in-FileSize c =
    fits_tested c.args.self.now _ _ _ c.requires c.in-FileSize.is c.is_size_of.ensures
