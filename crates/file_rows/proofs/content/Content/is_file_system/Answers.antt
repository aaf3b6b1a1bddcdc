use Rattle.std.proofs.Common.{List, subst, ◌↔◌}
use Rattle.std.specs.Prelude.{IsTrue}
use Rattle.file_rows.specs.Content.{ArePins, AreFiles, heads_of}
use Rattle.file_rows.specs.declared.pin.PinRow.{PinRow}
use Rattle.file_rows.specs.declared.row.FileRow.{FileRow}
use Rattle.file_rows.proofs.content.Content.is_file_system.Goals as goal

pub returns-then-are_files : goal.returns-then-are_files
returns-then-are_files c =
    let content = c.args.self.now in
    let files : AreFiles content.rows = subst (λ (rows : List FileRow). AreFiles rows) c.as_slice-rows.ensures (c.are_files.ensures.0 c.if-are_files.true) in
    let pins : IsTrue c.are_pins.result ↔ ArePins (heads_of content.rows) content.pins =
    subst (λ (pins : List PinRow). IsTrue c.are_pins.result ↔ ArePins (heads_of content.rows) pins) c.as_slice.ensures
    (subst (λ (rows : List FileRow). IsTrue c.are_pins.result ↔ ArePins (heads_of rows) c.as_slice.result.now) c.as_slice-rows.ensures c.are_pins.ensures) in
    (λ e. record { files = files; pins = pins.0 e }, λ system. pins.1 system.pins)
