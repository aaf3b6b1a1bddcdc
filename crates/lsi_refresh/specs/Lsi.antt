-- Logical secure interfaces, the ports of a card: how many there are, and the reset of one
-- (ETSI TS 102 221, MANAGE LSI).
use Rattle.std.specs.Prelude.{ℕ, Bool, true, false, ◌==◌, ◌&&◌, nat_lt, if◌then◌else◌, List, []}
use Rattle.std.specs.Prelude.{◌∷◌, length, Option, Some, None, is_some, Result, Ok, Err}
use Rattle.apdu_codec.specs.Command.{Apdu}
use Rattle.apdu_codec.specs.declared.commands.Class.{Class}
use Rattle.apdu_codec.specs.declared.commands.Class.TheVariants.{Standard, Special}
use Rattle.apdu_codec.specs.declared.status.Sw.{Sw}
use Rattle.apdu_codec.specs.declared.status.TheConstants.Sw.{WRONG_CLASS, WRONG_LENGTH, WRONG_P1_P2}
use Rattle.lsi_refresh.specs.declared.lsi.Lsi.{Lsi}
use Rattle.lsi_refresh.specs.declared.lsi.Lsi.TheVariants.{Count, Reset}
use Rattle.plain_lists.specs.FirstOf.{first_of}
use Rattle.uicc_channels.specs.Delivery.{le_refusal}
use Rattle.uicc_channels.specs.Needs.{refused_unless}

-- the class byte 80 alone: it is no command of one of the channels
abbrev pub is_special : Class → Bool
is_special Standard = false
is_special Special = true

abbrev pub has_class_80 : Apdu → Bool
has_class_80 c = is_special c.class && (c.channel == 0)

-- how many ports the card has, as a data object: the answer is `80 01` and the number
abbrev pub count_body : ℕ → List ℕ
count_body ports = 0x80 ∷ 0x01 ∷ ports ∷ []

-- what P1 and P2 ask for: 00 00 the number of ports, 01 and a port of the card its reset
abbrev pub lsi_asked : Apdu → ℕ → Option Lsi
lsi_asked c ports =
    if (c.p1 == 0x00) && (c.p2 == 0x00) then Some Count
    else (if (c.p1 == 0x01) && nat_lt c.p2 ports then Some (Reset c.p2)
    else None)

-- why the body or Le refuses it: a body never stands there, and the number of ports needs an Le of
-- 00 or of its length
abbrev pub form_refusal_of : Apdu → ℕ → Lsi → Option Sw
form_refusal_of c ports Count = first_of
    (refused_unless ((length c.body == 0) && is_some c.le) WRONG_LENGTH
    ∷ le_refusal c.le (count_body ports) ∷ [])
form_refusal_of c ports (Reset port) = refused_unless (length c.body == 0) WRONG_LENGTH

abbrev pub done_unless : {X : Type 0} → Option Sw → X → Result X Sw
done_unless None done = Ok done
done_unless (Some sw) done = Err sw

abbrev pub asked_in_form : Apdu → ℕ → Option Lsi → Result Lsi Sw
asked_in_form c ports None = Err WRONG_P1_P2
asked_in_form c ports (Some lsi) = done_unless (form_refusal_of c ports lsi) lsi

-- What a MANAGE LSI comes to on a card with so many ports: it asks for the number of ports, it
-- resets a port, or it is refused: for its class, for P1 and P2, for a body or a missing Le, for a
-- wrong Le.
abbrev pub lsi_of : Apdu → ℕ → Result Lsi Sw
lsi_of c ports =
    if has_class_80 c then asked_in_form c ports (lsi_asked c ports) else Err WRONG_CLASS
