-- What was decided on the end of a load, by what the card keeps beside contents.
use Rattle.std.specs.Prelude.{ℕ, ◌≡◌, true, Option, Some, None, IfSome}
use Rattle.record_codec.specs.Apply.{apply}
use Rattle.record_codec.specs.FitsCard.{FitsCard}
use Rattle.record_codec.specs.IsDurable.{IsDurable}
use Rattle.record_codec.specs.declared.durable.Durable.{Durable}
use Rattle.record_codec.specs.declared.durable.Heads.{Heads}
use Rattle.record_codec.specs.declared.record.Record.{Record}
use Rattle.card_core.specs.Load.{EndsLoad, LoadEnd, ends_with}
use Rattle.card_core.specs.LoadState.{LoadState}
use Rattle.card_core.specs.declared.entry.Loading.TheVariants.{Done}
use Rattle.card_core.specs.declared.installing.EndDecision.{EndDecision}
use Rattle.card_core.specs.declared.installing.EndDecision.TheVariants.{Installs, InstallsNothing}

-- the record of the installation, where there is one
abbrev pub end_entry : EndDecision → Option Record
end_entry (InstallsNothing outcome) = None
end_entry (Installs profile entry) = Some entry

-- what the decision comes to on a card that keeps this, where a record gets this number
abbrev pub decided_end : Durable → ℕ → EndDecision → LoadEnd
decided_end durable commit (InstallsNothing outcome) = ends_with durable outcome
decided_end durable commit (Installs profile entry) = record {
  durable = apply durable entry;
  recorded = true;
  outcome = Done profile commit;
}

-- on each card with these heads that is an end of the load, whatever number a record gets, and the
-- record fits
pub record DecidesEnd (heads : Heads) (load : Option LoadState) (decision : EndDecision)
    : Type 0 where
  pub ends : (durable : Durable) (commit : ℕ) → durable.heads ≡ heads
      → EndsLoad durable commit load (decided_end durable commit decision)
  pub fits : (durable : Durable) → IsDurable durable → durable.heads ≡ heads
      → IfSome (end_entry decision) (FitsCard durable)
