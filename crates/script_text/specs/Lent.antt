-- What an item is whose bytes are lent.
use Rattle.card_core.specs.declared.event.Event.{Event}
use Rattle.card_core.specs.declared.event.Event.TheVariants.{Apdu, Reset, Load}
use Rattle.card_core.specs.declared.event.LoadStep.{LoadStep}
use Rattle.card_core.specs.declared.event.LoadStep.TheVariants.{Begin, Piece, End}
use Rattle.card_core.specs.declared.script.Statement.{Statement}
use Rattle.script_text.specs.Item.{Item}
use Rattle.script_text.specs.Item.Item.{Stated, PhaseEnd, SectionEnd}
use Rattle.script_text.specs.declared.item.EventRef.{EventRef}
use Rattle.script_text.specs.declared.item.ItemRef.{ItemRef}
use Rattle.script_text.specs.declared.item.LoadStepRef.{LoadStepRef}
use Rattle.script_text.specs.declared.item.StatementRef.{StatementRef}

abbrev pub step_of : LoadStepRef → LoadStep
step_of (LoadStepRef.Begin metadata) = Begin metadata.now
step_of (LoadStepRef.Piece bytes) = Piece bytes.now
step_of LoadStepRef.End = End

abbrev pub event_of : EventRef → Event
event_of (EventRef.Apdu port bytes) = Apdu port bytes.now
event_of (EventRef.Reset port) = Reset port
event_of (EventRef.Load port step) = Load port (step_of step)

abbrev pub statement_of : StatementRef → Statement
statement_of lent = record { line = lent.line; event = event_of lent.event }

abbrev pub lent_item : ItemRef → Item
lent_item (ItemRef.Stated lent) = Stated (statement_of lent)
lent_item ItemRef.PhaseEnd = PhaseEnd
lent_item ItemRef.SectionEnd = SectionEnd
