use Rattle.std.specs.Prelude.{ℕ, ◌≡◌, Bool, false, ◌==◌, ◌&&◌, ◌||◌, List, is_some}
use Rattle.apdu_codec.specs.Command.{Spells, Apdu}
use Rattle.uicc_channels.specs.Session.{channel_at, open_channel}
use Rattle.uicc_channels.specs.declared.session.Session.{Session}

-- what the common part of an eUICC answers at an open channel in the card's place: MANAGE LSI, and
-- on a channel where the ISD-R is selected STORE DATA and GET RESPONSE
abbrev pub is_common : Session → Apdu → Bool
is_common session c =
    is_some (channel_at session c.channel)
    && ((c.ins == 0x7A)
    || (((c.ins == 0xE2) || (c.ins == 0xC0)) && (open_channel session c.channel).isdr))

-- the bytes are for the card itself
abbrev pub AreOwn : Session → List ℕ → Type 0
AreOwn session bytes = (c : Apdu) → Spells bytes c → is_common session c ≡ false
