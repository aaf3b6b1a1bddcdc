-- What a card keeps stays a card's with all that comes to it, and its loads stay sound.
use Rattle.std.proofs.Common.{◌≡◌, ◌⊎◌, ◌<◌, ◌+◌, ◌^◌, ℕ, zero, suc, Bool, true, false, cond}
use Rattle.std.proofs.Common.{nat_eq, List, []}
use Rattle.std.proofs.Common.{◌∷◌, ◌++◌, Option, Some, None, Result, Ok, Err, refl, sym, subst, inl}
use Rattle.std.proofs.Common.{inr}
use Rattle.std.specs.List.{AllByRecursion}
use Rattle.std.specs.Prelude.{IfSome, option_map, slice_index_or, slice_set}
use Rattle.apdu_codec.specs.Command.{Apdu}
use Rattle.apdu_codec.specs.declared.status.Sw.{Sw}
use Rattle.file_rows.proofs.ListLemmas.{each_append}
use Rattle.file_rows.specs.Change.{Fits}
use Rattle.file_rows.specs.Content.{IsValid}
use Rattle.file_rows.specs.declared.change.Change.{Change}
use Rattle.file_rows.specs.declared.content.Content.{Content}
use Rattle.isdr_codec.specs.Metadata.{metadata_of}
use Rattle.isdr_codec.specs.declared.metadata.MetaFault.{MetaFault}
use Rattle.isdr_commands.specs.Installation.{install_refusal}
use Rattle.isdr_commands.specs.declared.install.LoadRefusal.{LoadRefusal}
use Rattle.isdr_commands.specs.declared.moves.Move.{Move}
use Rattle.lsi_refresh.specs.Lsi.{lsi_of}
use Rattle.lsi_refresh.specs.declared.lsi.Lsi.{Lsi}
use Rattle.lsi_refresh.specs.declared.lsi.Lsi.TheVariants as lsi
use Rattle.profile_card.proofs.FollowLemmas.{MayFollow-decision}
use Rattle.profile_card.specs.Commands.{decision}
use Rattle.profile_card.specs.Own.{is_common}
use Rattle.profile_install.proofs.GivesValid.{gives_valid}
use Rattle.profile_install.specs.Package.{PackageGives}
use Rattle.profile_install.specs.declared.work.Refusal.{Refusal}
use Rattle.record_codec.specs.FitsCard.{FitsCard}
use Rattle.record_codec.specs.IsDurable.{IsDurable, IsHead}
use Rattle.record_codec.specs.declared.durable.Durable.{Durable}
use Rattle.record_codec.specs.declared.profile.ProfileHead.{ProfileHead}
use Rattle.record_codec.specs.declared.record.Record.{Record}
use Rattle.card_core.proofs.CarriedLemmas.{desk_carried}
use Rattle.card_core.proofs.InstalledLemmas.{installed_fits}
use Rattle.card_core.proofs.MetadataLemmas.{good_metadata}
use Rattle.card_core.proofs.PortLemmas.{change_fits, may_change_on, none_changes}
use Rattle.card_core.proofs.SeenLemmas.{each_either, fresh_at}
use Rattle.card_core.proofs.SoundLemmas.{happens_sound, sound_card}
use Rattle.card_core.specs.Desk.{desk_outcome}
use Rattle.card_core.specs.DeskOutcome.{DeskOutcome}
use Rattle.card_core.specs.Failed.{FailsLoadWith, spoiled}
use Rattle.card_core.specs.IsdrCommand.{busy_of, came_at, isdr_made, kept_on, move_at, port_moved}
use Rattle.card_core.specs.Load.{EndsBytes, EndsLoad, LoadEnd, installing, load_begun, load_built}
use Rattle.card_core.specs.Load.{piece_taken}
use Rattle.card_core.specs.LoadState.{LoadState}
use Rattle.card_core.specs.ManageLsi.{counted_at, lsi_asked_for, lsi_made}
use Rattle.card_core.specs.OwnCommand.{changed_where, own_made}
use Rattle.card_core.specs.Port.{content_on, profile_on, with_change_of}
use Rattle.card_core.specs.PortState.{PortState, fresh_port}
use Rattle.card_core.specs.Recorded.{recorded}
use Rattle.card_core.specs.Run.{IsOnCard}
use Rattle.card_core.specs.Sound.{BringsBytes, HasSoundLoads, IsOfBytes, IsSoundLoad, IsSoundState}
use Rattle.card_core.specs.Statements.{AnswersBytes, MakesLoadStep, command_made}
use Rattle.card_core.specs.Stepped.{Happens}
use Rattle.card_core.specs.World.{Made, WorldState, card_in, port_in}
use Rattle.card_core.specs.declared.event.Event.{Event}
use Rattle.card_core.specs.declared.event.Event.TheVariants as events
use Rattle.card_core.specs.declared.event.LoadStep.{LoadStep}
use Rattle.card_core.specs.declared.event.LoadStep.TheVariants as steps

abbrev IsGood : Option LoadState → Type 0
IsGood load = IfSome load IsSoundLoad

module _ (durable : Durable) (are : IsDurable durable) where
  -- after a change that fits a content the card keeps what a card may
  pub changed_are : (port : ℕ) (change : Option Change)
      → IfSome change (Fits (content_on durable port))
      → IsDurable (changed_where durable port change)
  changed_are port None fits = are
  changed_are port (Some change) fits = by (profile_on durable port) refl
    where
      by : (on : Option ℕ) → profile_on durable port ≡ on
          → IsDurable (with_change_of on change durable)
      by None on = absurd (none_changes durable port change fits on)
      by (Some profile) on =
          (change_fits durable profile change are
          (may_change_on durable port profile change fits on)).after

  recorded_are : (entry : Option Record) → IfSome entry (FitsCard durable)
      → IsDurable (recorded durable entry)
  recorded_are None fits = are
  recorded_are (Some entry) fits = fits.after

  module _ (commit : ℕ) where
    installing_are : (head : ProfileHead) (content : Content) (refusal : Option LoadRefusal)
        → IsHead head → IsValid content → install_refusal durable.heads head ≡ refusal
        → IsDurable (installing durable commit head content refusal).durable
    installing_are head content (Some refusal) good valid is = are
    installing_are head content None good valid is =
        (installed_fits durable head content are good valid is).after

    built_are : (head : ProfileHead) (bytes : List ℕ) (answer : Result Content Refusal)
        → IsHead head → AllByRecursion (λ byte. byte < 2 ^ 8) bytes
        → PackageGives head.iccid bytes answer
        → IsDurable (load_built durable commit head answer).durable
    built_are head bytes (Err refusal) good small gives = are
    built_are head bytes (Ok content) good small gives =
        installing_are head content (install_refusal durable.heads head) good
        (gives_valid head.iccid bytes content small gives) refl

    bytes_are : (load : LoadState) (bytes : Option (List ℕ)) (end : LoadEnd) → IsHead load.head
        → IfSome bytes (AllByRecursion (λ byte. byte < 2 ^ 8))
        → EndsBytes durable commit load bytes end → IsDurable end.durable
    bytes_are load None end good small is =
        subst (λ (its : LoadEnd). IsDurable its.durable) (sym is) are
    bytes_are load (Some bytes) end good small gives =
        subst (λ (its : LoadEnd). IsDurable its.durable) (sym gives.2)
        (built_are load.head bytes gives.0 good small gives.1)

    end_are : (load : Option LoadState) (end : LoadEnd) → IsGood load
        → EndsLoad durable commit load end → IsDurable end.durable
    end_are None end good is = subst (λ (its : LoadEnd). IsDurable its.durable) (sym is) are
    end_are (Some load) end good is =
        bytes_are load load.received end good.head good.bytes is

begun_good : (load : Option LoadState) (read : Result ProfileHead MetaFault) → IsGood load
    → ((head : ProfileHead) → read ≡ Ok head → IsHead head) → IsGood (load_begun load read).load
begun_good load (Err fault) good is = good
begun_good load (Ok head) good is = record { head = is head refl; bytes = tt }

more_bytes : (received : Option (List ℕ)) (piece : List ℕ)
    → IfSome received (AllByRecursion (λ byte. byte < 2 ^ 8))
    → AllByRecursion (λ byte. byte < 2 ^ 8) piece
    → IfSome (option_map (λ bytes. bytes ++ piece) received)
    (AllByRecursion (λ byte. byte < 2 ^ 8))
more_bytes None piece small its = tt
more_bytes (Some bytes) piece small its =
    each_append (λ (byte : ℕ). byte < 2 ^ 8) bytes piece small its

taken_good : (load : Option LoadState) (piece : List ℕ) → IsGood load
    → AllByRecursion (λ byte. byte < 2 ^ 8) piece → IsGood (piece_taken load piece).load
taken_good None piece good its = tt
taken_good (Some load) piece good its =
    record { head = good.head; bytes = more_bytes load.received piece good.bytes its }

spoiled_good : (load : Option LoadState) → IsGood load → IsGood (option_map spoiled load)
spoiled_good None good = tt
spoiled_good (Some load) good = record { head = good.head; bytes = tt }

moved_good : (kept : Option ℕ) (move : Option Move) (port : PortState) → IsGood port.load
    → IsGood (port_moved kept move port).load
moved_good kept None port good = good
moved_good kept (Some move) port good = good

abbrev AreGood : List PortState → Type 0
AreGood ports = (port : ℕ) → IsGood (slice_index_or ports port fresh_port).load

put_good : (ports : List PortState) (number : ℕ) (put : PortState) → AreGood ports
    → IsGood put.load → AreGood (slice_set ports number put)
put_good [] number put good its port = good port
put_good (first ∷ ports) zero put good its zero = its
put_good (first ∷ ports) zero put good its (suc port) = good (suc port)
put_good (first ∷ ports) (suc number) put good its zero = good zero
put_good (first ∷ ports) (suc number) put good its (suc port) =
    put_good ports number put (λ one. good (suc one)) its port

module _ (state : WorldState) (sound : IsSoundState state) (loads : HasSoundLoads state) where
  -- the card stays sound, and its loads
  record Stays (made : Made) : Type 0 where
    pub are : IsDurable made.state.durable
    pub its_loads : HasSoundLoads made.state

  -- a port is put, and the rest is as it was
  put_stays : (port : ℕ) (put : PortState) → IsGood put.load
      → AreGood (slice_set state.ports port put)
  put_stays port put good = put_good state.ports port put loads good

  lsi_stays : (port : ℕ) (asked : Result Lsi Sw) → Stays (lsi_asked_for state port asked)
  lsi_stays port (Ok lsi.Count) =
      record { are = sound.are; its_loads = put_stays port _ (loads port) }
  lsi_stays port (Err sw) = record { are = sound.are; its_loads = put_stays port _ (loads port) }
  lsi_stays port (Ok (lsi.Reset other)) =
      let counted_good : AreGood (counted_at state port).ports = put_stays port _ (loads port) in
      record {
        are = sound.are;
        its_loads = put_good (counted_at state port).ports other _ counted_good (counted_good other);
      }

  isdr_stays : (port : ℕ) (c : Apdu) → port < state.durable.heads.ports.count
      → Stays (isdr_made state port c)
  isdr_stays port c below = record {
    are = recorded_are state.durable sound.are outcome.entry
        (desk_carried state.durable sound.are (busy_of state.ports) port below
        (port_in state port).desk c).fits;
    its_loads = λ other. by other (each_either change 0 ports other);
  }
    where
      outcome : DeskOutcome
      outcome = desk_outcome (port_in state port).desk state.durable.heads
          (busy_of state.ports) port c

      ports : List PortState
      ports = slice_set state.ports port (came_at port c.channel outcome (port_in state port))

      good : AreGood ports
      good = put_stays port _ (loads port)

      change : ℕ → PortState → PortState
      change number = port_moved (kept_on port c.channel number) (move_at outcome.moves number)

      by : (other : ℕ) → (slice_index_or (isdr_made state port c).state.ports other fresh_port
          ≡ change (0 + other) (slice_index_or ports other fresh_port))
          ⊎ (slice_index_or (isdr_made state port c).state.ports other fresh_port ≡ fresh_port)
          → IsGood (port_in (isdr_made state port c).state other).load
      by other (inl is) =
          subst (λ (its : PortState). IsGood its.load) (sym is)
          (moved_good (kept_on port c.channel (0 + other)) (move_at outcome.moves (0 + other))
          (slice_index_or ports other fresh_port) (good other))
      by other (inr none) = subst (λ (its : PortState). IsGood its.load) (sym none) tt

  own_stays : (port : ℕ) (c : Apdu) → Stays (own_made state port c)
  own_stays port c = record {
    are = changed_are state.durable sound.are port (decision (card_in state port) c).change
        (MayFollow-decision (card_in state port) (sound_card state sound port) c).change;
    its_loads = put_stays port _ (loads port);
  }

  command_stays : (port : ℕ) (c : Apdu) → port < state.durable.heads.ports.count
      → Stays (command_made state port c)
  command_stays port c below = by (is_common (port_in state port).session c) (nat_eq c.ins 0x7A)
    where
      by : (common is_lsi : Bool) → Stays (cond common
          (cond is_lsi (lsi_made state port c) (isdr_made state port c)) (own_made state port c))
      by true true = lsi_stays port (lsi_of c state.durable.heads.ports.count)
      by true false = isdr_stays port c below
      by false is_lsi = own_stays port c

  bytes_stay : (port : ℕ) (bytes : List ℕ) (made : Made)
      → port < state.durable.heads.ports.count → AnswersBytes state port bytes made → Stays made
  bytes_stay port bytes made below (inl spelled) =
      subst Stays (sym spelled.2) (command_stays port spelled.0 below)
  bytes_stay port bytes made below (inr none) =
      subst Stays (sym none.1) (record { are = sound.are; its_loads = put_stays port _ (loads port) })

  load_stays : (port : ℕ) (step : LoadStep) (made : Made) → IsOfBytes step
      → MakesLoadStep state port step made → Stays made
  load_stays port (steps.Begin metadata) made small is =
      subst Stays (sym is) (record {
        are = sound.are;
        its_loads = put_stays port _ (begun_good (port_in state port).load (metadata_of metadata)
            (loads port) (good_metadata metadata));
      })
  load_stays port (steps.Piece piece) made small is =
      subst Stays (sym is) (record {
        are = sound.are;
        its_loads = put_stays port _ (taken_good (port_in state port).load piece (loads port) small);
      })
  load_stays port steps.End made small ends =
      subst Stays (sym ends.2) (record {
        are = end_are state.durable sound.are (state.commits + 1) (port_in state port).load ends.0
            (loads port) ends.1;
        its_loads = put_stays port _ tt;
      })

  failed_load_stays : (port : ℕ) (step : LoadStep) (made : Made)
      → FailsLoadWith state port step made → Stays made
  failed_load_stays port (steps.Begin metadata) made is =
      subst Stays (sym is) (record { are = sound.are; its_loads = put_stays port _ (loads port) })
  failed_load_stays port (steps.Piece piece) made is =
      subst Stays (sym is) (record {
        are = sound.are;
        its_loads = put_stays port _ (spoiled_good (port_in state port).load (loads port));
      })
  failed_load_stays port steps.End made ends =
      subst Stays (sym ends.1) (record { are = sound.are; its_loads = put_stays port _ tt })

  happens_stays : (failed : Bool) (event : Event) (made : Made)
      → IsOnCard state.durable.heads.ports.count event → BringsBytes event
      → Happens failed state event made → Stays made
  happens_stays false (events.Apdu port bytes) made on small is = bytes_stay port bytes made on is
  happens_stays false (events.Reset port) made on small is =
      subst Stays (sym is) (record { are = sound.are; its_loads = put_stays port _ (loads port) })
  happens_stays false (events.Load port step) made on small is =
      load_stays port step made small is
  happens_stays false events.Power made on small is =
      subst Stays (sym is) (record {
        are = sound.are;
        its_loads = λ port. subst (λ (its : PortState). IsGood its.load)
            (sym (fresh_at state.durable.heads.ports.count port)) tt;
      })
  happens_stays true (events.Apdu port bytes) made on small is =
      subst Stays (sym is.3) (record { are = sound.are; its_loads = put_stays port _ (loads port) })
  happens_stays true (events.Reset port) made on small is = absurd is
  happens_stays true (events.Load port step) made on small is = failed_load_stays port step made is
  happens_stays true events.Power made on small is = absurd is

  -- whatever comes to a sound card leaves a sound one
  pub happens_whole : (failed : Bool) (event : Event) (made : Made)
      → IsOnCard state.durable.heads.ports.count event → BringsBytes event
      → Happens failed state event made → IsSoundState made.state × HasSoundLoads made.state
  happens_whole failed event made on small is =
      let stays = happens_stays failed event made on small is in
      (happens_sound state sound failed event made on is stays.are, stays.its_loads)
