use Rattle.std.proofs.Common.{◌≡◌, ◌≢◌, ℕ, true, inl, inr, List, [], ◌∷◌, Option, Some, None, refl}
use Rattle.std.proofs.Common.{sym, subst, ◌∙◌}
use Rattle.std.proofs.lemmas.Bool.{cases_eq, true≢false}
use Rattle.apdu_codec.specs.Command.{Apdu}
use Rattle.apdu_codec.specs.Sw.{wrong_le}
use Rattle.apdu_codec.specs.declared.status.TheConstants.Sw.{OK}
use Rattle.std.specs.Prelude.{length}
use Rattle.uicc_channels.proofs.ManageLemmas.{IsOpening, lowest_closed-is}
use Rattle.uicc_channels.proofs.NeedsLemmas.{is_met}
use Rattle.uicc_channels.proofs.SessionLemmas.{channel_at-waiting, channel_at-waiting_same}
use Rattle.uicc_channels.proofs.SessionLemmas.{channel_at-with_channel}
use Rattle.uicc_channels.proofs.SessionLemmas.{channel_at-with_channel_closed}
use Rattle.uicc_channels.proofs.SessionLemmas.{channel_at-with_channel_open}
use Rattle.uicc_channels.specs.ChannelLaws.{ChangesChannelsAlone, IsRefusal, StaysButWaiting}
use Rattle.uicc_channels.specs.Chan.{holding}
use Rattle.uicc_channels.specs.Delivery.{answered, le_refusal, takes, waiting}
use Rattle.uicc_channels.specs.GetResponse.{rest_status}
use Rattle.uicc_channels.specs.ManageChannel.{closing, opened_from, opening}
use Rattle.uicc_channels.specs.Session.{IsOpen, channel_at, open_channel, with_channel}
use Rattle.uicc_channels.specs.declared.chan.Chan.{Chan}
use Rattle.uicc_channels.specs.declared.session.Session.{Session}

pub open_and_closed : (session : Session) (number : ℕ) → IsOpen session number → channel_at session number ≡ None → ⊥
open_and_closed session number is_open closed = true≢false (rw closed at (sym is_open))

-- of a channel at most what waits there is changed by a delivery
pub waiting-own : (le : Option ℕ) (session : Session) (number : ℕ) (body : List ℕ) (chan : Chan) → channel_at session number ≡ Some chan
    → StaysButWaiting (waiting le session number body) number chan
waiting-own None session number body chan found = (body, channel_at-waiting_same None session number body chan refl found)
waiting-own (Some le) session number body chan found = (chan.pending, found)

module _ (session : Session) (c : Apdu) (number : ℕ) (opens : IsOpening session c number) where
  abbrev after : Session
  after = (opening session c number).session

  was_closed : channel_at session number ≡ None
  was_closed = (lowest_closed-is session number opens.found).1

  pub opening-other : (other : ℕ) → other ≢ number → other ≢ c.channel → channel_at after other ≡ channel_at session other
  opening-other other apart another =
      channel_at-with_channel (waiting c.le session c.channel (number ∷ [])) number other (Some (opened_from c.channel (open_channel session c.channel))) apart
      ∙ channel_at-waiting c.le session c.channel other (number ∷ []) another

  -- an open channel isn't the one that opens
  pub opening-apart : (other : ℕ) → IsOpen session other → other ≢ number
  opening-apart other is_open e = open_and_closed session number (rw (sym e) is_open) was_closed

  pub opening-own : (chan : Chan) → channel_at session c.channel ≡ Some chan → StaysButWaiting after c.channel chan
  opening-own chan found =
      let waits : StaysButWaiting (waiting c.le session c.channel (number ∷ [])) c.channel chan = waiting-own c.le session c.channel (number ∷ []) chan found in
      (waits.0, channel_at-with_channel (waiting c.le session c.channel (number ∷ [])) number c.channel (Some (opened_from c.channel (open_channel session c.channel))) (opening-apart c.channel opens.channel) ∙ waits.1)

  -- the channel that opens is that one
  pub opening-is : (other : ℕ) → channel_at session other ≡ None → IsOpen after other → other ≡ number
  opening-is other closed is_open =
      elim (cases_eq other number) [
        | inl e ↦ e
        | inr apart ↦ absurd (open_and_closed after other is_open
            (opening-other other apart (λ e. open_and_closed session other (rw e opens.channel) closed) ∙ closed))
      ]

  pub opening-stands : IsOpen after number → channel_at after number ≡ Some (opened_from c.channel (open_channel session c.channel))
  opening-stands is_open =
      channel_at-with_channel_open (waiting c.le session c.channel (number ∷ [])) number (opened_from c.channel (open_channel session c.channel)) is_open

  -- no channel closes by opening one
  pub opening-closes_none : (other : ℕ) → channel_at after other ≡ None → channel_at session other ≡ None
  opening-closes_none other closed =
      elim (cases_eq other number) [
        | inl e ↦ rw e was_closed
        | inr apart ↦ elim (cases_eq other c.channel) [
          | inl own ↦ rw own (own_closed (channel_at session c.channel) refl (subst (λ (k : ℕ). channel_at after k ≡ None) own closed))
          | inr another ↦ sym (opening-other other apart another) ∙ closed
        ]
      ]
    where
      own_closed : (place : Option Chan) → channel_at session c.channel ≡ place → channel_at after c.channel ≡ None → channel_at session c.channel ≡ None
      own_closed None found none = found
      own_closed (Some chan) found none =
          let stays : StaysButWaiting after c.channel chan = opening-own chan found in
          let is_there : channel_at after c.channel ≡ Some (holding stays.0 chan) = stays.1 in absurd (cc)

-- opening changes the channels alone
pub opening-alone : (session : Session) (c : Apdu) (number : ℕ) → ChangesChannelsAlone session (opening session c number)
opening-alone session c number = by_le c.le
  where
    by_le : (le : Option ℕ) → ChangesChannelsAlone session (record {
      answer = answered OK le (number ∷ []);
      session = with_channel (waiting le session c.channel (number ∷ [])) number (Some (opened_from c.channel (open_channel session c.channel)));
      change = None;
    })
    by_le None = (refl, refl)
    by_le (Some le) = (refl, refl)

-- no channel opens by closing one
pub closing-opens_none : (session : Session) (number other : ℕ) → channel_at session other ≡ None → channel_at (closing session number).session other ≡ None
closing-opens_none session number other closed =
    elim (cases_eq other number) [
      | inl e ↦ rw e (channel_at-with_channel_closed session number)
      | inr apart ↦ channel_at-with_channel session number other None apart ∙ closed
    ]

-- an answer body that isn't refused is answered by 9000 or 61XX
pub answered-accepted : (le : Option ℕ) (body : List ℕ) → le_refusal le body ≡ None → IsRefusal (answered OK le body).sw → ⊥
answered-accepted None body none refuses = refuses.1 (length body) refl
answered-accepted (Some le) body none refuses =
    let taken : takes le (length body) ≡ true = is_met (takes le (length body)) (wrong_le (length body)) none in
    let given : IsRefusal OK = rw taken at refuses in given.0 refl

pub rest_status-accepted : (rest : List ℕ) → IsRefusal (rest_status rest) → ⊥
rest_status-accepted [] refuses = refuses.0 refl
rest_status-accepted (byte ∷ bytes) refuses = refuses.1 (length (byte ∷ bytes)) refl
