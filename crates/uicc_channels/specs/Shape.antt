use Rattle.std.specs.Prelude.{Bool, not, ◌==◌, ◌&&◌, length, [], ◌∷◌, Option, is_some}
use Rattle.apdu_codec.specs.Command.{Apdu}
use Rattle.apdu_codec.specs.Ins.{class_fits}
use Rattle.apdu_codec.specs.declared.status.Sw.{Sw}
use Rattle.apdu_codec.specs.declared.status.TheConstants.Sw.{WRONG_CLASS, WRONG_LENGTH, WRONG_P1_P2}
use Rattle.plain_lists.specs.FirstOf.{first_of}
use Rattle.uicc_channels.specs.Needs.{refused_unless}

-- why a command on an open channel is refused by its shape: its class, P1 and P2, and then its body
-- and Le
abbrev pub shape_refusal : Apdu → Bool → Bool → Option Sw
shape_refusal c parameters lengths =
    first_of
    (refused_unless (class_fits c.ins c.class) WRONG_CLASS
    ∷ refused_unless parameters WRONG_P1_P2
    ∷ refused_unless lengths WRONG_LENGTH
    ∷ [])

abbrev pub has_body : Apdu → Bool
has_body c = not (length c.body == 0)

-- no body, and an Le
abbrev pub has_le_alone : Apdu → Bool
has_le_alone c = (length c.body == 0) && is_some c.le
