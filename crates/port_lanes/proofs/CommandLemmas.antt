-- What a command that isn't shared makes of the port of a lane.
use Rattle.std.proofs.Common.{◌≡◌, ℕ, Bool, true, false, cond, nat_eq, List, []}
use Rattle.std.proofs.Common.{Option, Some, None, Result, Ok, Err, refl, sym, ◌∙◌, ap, inl, inr}
use Rattle.std.proofs.Common.{Bor}
use Rattle.std.specs.Prelude.{◌&&◌, ◌⊎◌}
use Rattle.apdu_codec.specs.Command.{Apdu, apdu_of}
use Rattle.apdu_codec.specs.declared.answers.Answer.{Answer}
use Rattle.apdu_codec.specs.declared.commands.Command.{Command as CommandRead}
use Rattle.apdu_codec.specs.declared.status.Sw.{Sw}
use Rattle.card_book.specs.declared.entry.HistoryEntry.{HistoryEntry}
use Rattle.lsi_refresh.specs.Lsi.{lsi_of}
use Rattle.lsi_refresh.specs.declared.lsi.Lsi.{Lsi}
use Rattle.lsi_refresh.specs.declared.lsi.Lsi.TheVariants as lsi
use Rattle.profile_card.specs.Own.{is_common}
use Rattle.record_codec.specs.declared.durable.Durable.{Durable}
use Rattle.record_codec.specs.declared.record.Record.{Record}
use Rattle.card_core.specs.Failed.{failed_piece}
use Rattle.card_core.specs.IsdrCommand.{is_shared_command, isdr_made}
use Rattle.card_core.specs.Load.{piece_made}
use Rattle.card_core.specs.ManageLsi.{lsi_asked_for, lsi_made}
use Rattle.card_core.specs.OwnCommand.{own_made}
use Rattle.card_core.specs.PortState.{PortState}
use Rattle.card_core.specs.Statements.{command_made}
use Rattle.card_core.specs.Stretch.{is_shared_at, resets_a_port}
use Rattle.card_core.specs.World.{Made, WorldState, answered_alone, port_in}
use Rattle.port_lanes.specs.ComingStep.{ComingHappens}
use Rattle.port_lanes.specs.LanePort.{IsPortOf}
use Rattle.port_lanes.specs.LaneStep.{CommitsFrom, StepsIn, StepsPort}
use Rattle.port_lanes.specs.LoadSteps.{PieceHappens}
use Rattle.port_lanes.specs.LsiAnswer.{lsi_answer}
use Rattle.port_lanes.specs.OwnStep.{CommandHappens, OwnHappens}
use Rattle.port_lanes.specs.Step.{view_of}
use Rattle.port_lanes.specs.declared.coming.Coming.{Coming}
use Rattle.port_lanes.specs.declared.coming.Coming.TheVariants.{Command, Feeds}
use Rattle.port_lanes.specs.declared.lane_port.LanePort.{LanePort}
use Rattle.port_lanes.specs.declared.unstored.Unstored.{Unstored}
use Rattle.port_lanes.specs.declared.unstored.Unstored.TheVariants.{Memory}

-- what a statement made, in other words
pub steps_as : (comes others : WorldState → Made → Type 0) (before after : LanePort)
    (records : List Record)
    → ((state : WorldState) → IsPortOf state before → (made : Made) → comes state made
    → others state made)
    → StepsPort comes before after records → StepsPort others before after records
steps_as comes others before after records goes steps = record {
  rest = steps.rest;
  statements = steps.statements;
  session = steps.session;
  room = steps.room;
  each = λ state sound at.
      let its : StepsIn comes before after records state = steps.each state sound at in
      record {
        made = its.made;
        is = goes state at its.made its.is;
        port = its.port;
        log = its.log;
        kept = its.kept;
        commits = its.commits;
      };
}

-- nothing is committed
pub commits_none : (begun : Durable) (may_come : List HistoryEntry → Type 0)
    (history : List HistoryEntry) (port : ℕ)
    → CommitsFrom begun may_come history history port None []
commits_none begun may_come history port =
    inl (record { known = refl; records_are = refl; failure_is = inl refl })

module _ (lane : LanePort) (c : Apdu) where
  abbrev by_kind : WorldState → Bool → Bool → Made
  by_kind state common is_lsi =
      cond common (cond is_lsi (lsi_made state lane.number c) (isdr_made state lane.number c))
      (own_made state lane.number c)

  common_is : (state : WorldState) → IsPortOf state lane → (common : Bool)
      → is_common lane.port.session c ≡ common
      → is_common (port_in state lane.number).session c ≡ common
  common_is state at common is = ap (λ (one : PortState). is_common one.session c) at.stands ∙ is

  own_command : (state : WorldState) → IsPortOf state lane
      → is_common lane.port.session c ≡ false
      → own_made state lane.number c ≡ command_made state lane.number c
  own_command state at own =
      ap (λ (common : Bool). by_kind state common (nat_eq c.ins 0x7A))
      (sym (common_is state at false own))

  common_command : (state : WorldState) → IsPortOf state lane → (is_lsi : Bool)
      → is_common lane.port.session c ≡ true → nat_eq c.ins 0x7A ≡ is_lsi
      → by_kind state true is_lsi ≡ command_made state lane.number c
  common_command state at is_lsi common is =
      ap (by_kind state true) (sym is)
      ∙ ap (λ (its : Bool). by_kind state its (nat_eq c.ins 0x7A))
      (sym (common_is state at true common))

  pub own_happens : (failure : Option Unstored) (after : LanePort) (records : List Record)
      → is_common lane.port.session c ≡ false
      → StepsPort (OwnHappens failure lane.number c) lane after records
      → StepsPort (CommandHappens failure lane.number c) lane after records
  own_happens None after records own steps =
      steps_as (OwnHappens None lane.number c) (CommandHappens None lane.number c) lane after
      records (λ state at made is. is ∙ own_command state at own) steps
  own_happens (Some reason) after records own steps = steps

  pub reply_happens : (after : LanePort) → is_common lane.port.session c ≡ true
      → nat_eq c.ins 0x7A ≡ false
      → StepsPort (λ state made. made ≡ isdr_made state lane.number c) lane after []
      → StepsPort (CommandHappens None lane.number c) lane after []
  reply_happens after common not_lsi =
      steps_as (λ state made. made ≡ isdr_made state lane.number c)
      (CommandHappens None lane.number c) lane after []
      (λ state at made is. is ∙ common_command state at false common not_lsi)

  -- a MANAGE LSI that resets no port is answered, and that is all
  answered_is : (state : WorldState) (asked : Result Lsi Sw) → resets_a_port asked ≡ false
      → lane.count ≡ state.durable.heads.ports.count
      → answered_alone state lane.number (lsi_answer lane.count asked)
      ≡ lsi_asked_for state lane.number asked
  answered_is state (Ok lsi.Count) none count =
      ap (λ (n : ℕ). answered_alone state lane.number (lsi_answer n (Ok lsi.Count))) count
  answered_is state (Ok (lsi.Reset port)) none count = absurd cc
  answered_is state (Err sw) none count = refl

  no_reset : (common is_lsi : Bool) → is_common lane.port.session c ≡ common
      → nat_eq c.ins 0x7A ≡ is_lsi → common ≡ true → is_lsi ≡ true
      → (common && cond is_lsi (resets_a_port (lsi_of c lane.count)) (is_shared_command c))
      ≡ false → resets_a_port (lsi_of c lane.count) ≡ false
  no_reset true true common is_lsi so this none = none
  no_reset true false common is_lsi so this none = absurd cc
  no_reset false is_lsi common is so this none = absurd cc

  pub lsi_happens : (after : LanePort) (answer : Answer)
      → is_common lane.port.session c ≡ true → nat_eq c.ins 0x7A ≡ true
      → is_shared_at (view_of lane) c ≡ false
      → answer ≡ lsi_answer lane.count (lsi_of c lane.count)
      → StepsPort (λ state made. made ≡ answered_alone state lane.number answer) lane after []
      → StepsPort (CommandHappens None lane.number c) lane after []
  lsi_happens after answer common is_lsi unshared is =
      steps_as (λ state made. made ≡ answered_alone state lane.number answer)
      (CommandHappens None lane.number c) lane after []
      (λ state at made so. so
      ∙ ap (answered_alone state lane.number) is
      ∙ answered_is state (lsi_of c lane.count)
      (no_reset (is_common lane.port.session c) (nat_eq c.ins 0x7A) refl refl common is_lsi
      unshared) at.count
      ∙ ap (λ (n : ℕ). lsi_asked_for state lane.number (lsi_of c n)) at.count
      ∙ common_command state at true common is_lsi)

-- a command that came is made as one
pub command_comes : (failure : Option Unstored) (command : CommandRead) (before after : LanePort)
    (records : List Record)
    → StepsPort (CommandHappens failure before.number (apdu_of command)) before after records
    → StepsPort (ComingHappens failure before.number (Command command)) before after records
command_comes None command before after records =
    steps_as (CommandHappens None before.number (apdu_of command))
    (ComingHappens None before.number (Command command)) before after records
    (λ state at made is. is)
command_comes (Some reason) command before after records =
    steps_as (CommandHappens (Some reason) before.number (apdu_of command))
    (ComingHappens (Some reason) before.number (Command command)) before after records
    (λ state at made is. is)

-- the next bytes of a package are taken, or they fail out of memory
pub record PieceComes (before after : LanePort) (coming : Coming) : Type 0 where
  pub failure : Option Unstored
  pub reason : (failure ≡ None) ⊎ (failure ≡ Some Memory)
  pub steps : StepsPort (ComingHappens failure before.number coming) before after []

pub piece_comes : (before after : LanePort) (piece : Bor (List ℕ))
    → PieceHappens before after piece.now → PieceComes before after (Feeds piece)
piece_comes before after piece (inl steps) = record {
  failure = None;
  reason = inl refl;
  steps = steps_as (λ state made. made ≡ piece_made state before.number piece.now)
      (ComingHappens None before.number (Feeds piece)) before after []
      (λ state at made is. is) steps;
}
piece_comes before after piece (inr steps) = record {
  failure = Some Memory;
  reason = inr refl;
  steps = steps_as (λ state made. made ≡ failed_piece state before.number)
      (ComingHappens (Some Memory) before.number (Feeds piece)) before after []
      (λ state at made is. (refl, is)) steps;
}
