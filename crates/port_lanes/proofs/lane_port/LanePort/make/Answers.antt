use Rattle.std.proofs.Common.{◌≡◌, [], None, refl, sym, ◌∙◌, ap, subst, inl}
use Rattle.apdu_codec.specs.declared.answers.Answer.{Answer}
use Rattle.card_core.specs.Load.{begin_made}
use Rattle.card_core.specs.PortReset.{reset_made}
use Rattle.card_core.specs.World.{answered_alone}
use Rattle.port_lanes.proofs.CommandLemmas.{PieceComes, command_comes, commits_none, piece_comes}
use Rattle.port_lanes.proofs.CommandLemmas.{steps_as}
use Rattle.port_lanes.specs.ComingStep.{ComingHappens}
use Rattle.port_lanes.specs.LaneStep.{StepsPort}
use Rattle.port_lanes.specs.declared.coming.Coming.{Coming}
use Rattle.port_lanes.specs.declared.coming.Coming.TheVariants.{Begins, Feeds, Resets, Unspelled}
use Rattle.port_lanes.proofs.lane_port.LanePort.make.Goals as goal

pub returns-in-Command-clause-step : goal.returns-in-Command-clause-step
returns-in-Command-clause-step g c = (
  c.command.ensures.step.0,
  c.command.ensures.step.1,
  c.command.ensures.step.2,
  subst (λ (coming : Coming). StepsPort
      (ComingHappens c.command.ensures.step.0 c.args.self.now.number coming) c.args.self.now
      c.command.new.self c.command.ensures.step.1) (sym c.in-Command.is)
      (command_comes c.command.ensures.step.0 c.in-Command.command c.args.self.now
      c.command.new.self c.command.ensures.step.1 c.command.ensures.step.3),
)

pub returns-in-Unspelled-clause-step : goal.returns-in-Unspelled-clause-step
returns-in-Unspelled-clause-step g c = (
  None,
  [],
  commits_none _ _ _ _,
  subst (λ (coming : Coming). StepsPort (ComingHappens None c.args.self.now.number coming)
      c.args.self.now c.answered.new.self []) (sym c.in-Unspelled.is)
      (steps_as (λ state made. made ≡ answered_alone state c.args.self.now.number c.status.result)
      (ComingHappens None c.args.self.now.number (Unspelled c.in-Unspelled.sw)) c.args.self.now
      c.answered.new.self [] (λ state at made is. is
      ∙ ap (λ (answer : Answer). answered_alone state c.args.self.now.number answer)
      c.status.ensures) c.answered.ensures.step),
)

pub returns-in-Resets-clause-step : goal.returns-in-Resets-clause-step
returns-in-Resets-clause-step g c = (
  None,
  [],
  commits_none _ _ _ _,
  subst (λ (coming : Coming). StepsPort (ComingHappens None c.args.self.now.number coming)
      c.args.self.now c.reset.new.self []) (sym c.in-Resets.is)
      (steps_as (λ state made. made ≡ reset_made state c.args.self.now.number)
      (ComingHappens None c.args.self.now.number Resets) c.args.self.now
      c.reset.new.self [] (λ state at made is. is) c.reset.ensures.step),
)

pub returns-in-Begins-clause-step : goal.returns-in-Begins-clause-step
returns-in-Begins-clause-step g c = (
  None,
  [],
  commits_none _ _ _ _,
  subst (λ (coming : Coming). StepsPort (ComingHappens None c.args.self.now.number coming)
      c.args.self.now c.begin_load.new.self []) (sym c.in-Begins.is)
      (steps_as (λ state made.
      made ≡ begin_made state c.args.self.now.number c.in-Begins.metadata.now)
      (ComingHappens None c.args.self.now.number (Begins c.in-Begins.metadata)) c.args.self.now
      c.begin_load.new.self [] (λ state at made is. is) c.begin_load.ensures.step),
)

pub returns-in-Feeds-clause-step : goal.returns-in-Feeds-clause-step
returns-in-Feeds-clause-step g c =
    let its : PieceComes c.args.self.now c.take_piece.new.self (Feeds c.in-Feeds.piece) =
    piece_comes c.args.self.now c.take_piece.new.self c.in-Feeds.piece
    c.take_piece.ensures.step in (
      its.failure,
      [],
      inl (record { known = refl; records_are = refl; failure_is = its.reason }),
      subst (λ (coming : Coming). StepsPort
          (ComingHappens its.failure c.args.self.now.number coming) c.args.self.now
          c.take_piece.new.self []) (sym c.in-Feeds.is) its.steps,
    )
