use Rattle.std.specs.Prelude.{Bool, true, List, [], ◌∷◌, Option, Some, None, is_some, if◌then◌else◌}
use Rattle.apdu_codec.specs.Command.{Apdu}
use Rattle.apdu_codec.specs.Ins.{class_fits}
use Rattle.apdu_codec.specs.declared.status.Sw.{Sw}
use Rattle.apdu_codec.specs.declared.status.TheConstants.Sw.{CHANNEL_NOT_SUPPORTED}
use Rattle.apdu_codec.specs.declared.status.TheConstants.Sw.{INCOMPATIBLE_STRUCTURE}
use Rattle.apdu_codec.specs.declared.status.TheConstants.Sw.{SECURITY_NOT_SATISFIED, WRONG_CLASS}
use Rattle.apdu_codec.specs.declared.status.TheConstants.Sw.{WRONG_INSTRUCTION, WRONG_LENGTH}
use Rattle.apdu_codec.specs.declared.status.TheConstants.Sw.{WRONG_P1_P2}
use Rattle.uicc_channels.specs.Session.{channel_at}
use Rattle.uicc_channels.specs.declared.session.Session.{Session}

-- What a command needs, each either met or with the status word that refuses it (ETSI TS 102 221,
-- status conditions).
pub record Needs : Type 0 where
  -- its channel is open
  pub channel : Bool
  -- the card knows its instruction
  pub instruction : Bool
  -- its class is the instruction's
  pub class : Bool
  -- P1 and P2 are among those of the instruction
  pub parameters : Bool
  -- the body and Le are there, or left out, as the instruction wants
  pub lengths : Bool
  -- the template in which it names its file is well formed
  pub template : Option Sw
  -- the file that it works on is there
  pub file : Option Sw
  -- it works on files of this kind
  pub kind : Bool
  -- the file is neither terminated nor deactivated
  pub life : Option Sw
  -- the file that it describes is well described
  pub description : Option Sw
  -- the access rules allow it
  pub access : Bool
  -- what the instruction alone asks
  pub own : Option Sw

-- what every command needs: an open channel, and a class that fits its instruction
abbrev pub needs_of : Session → Apdu → Needs
needs_of session c =
    record {
      channel = is_some (channel_at session c.channel);
      instruction = true;
      class = class_fits c.ins c.class;
      parameters = true;
      lengths = true;
      template = None;
      file = None;
      kind = true;
      life = None;
      description = None;
      access = true;
      own = None;
    }

abbrev pub refused_unless : Bool → Sw → Option Sw
refused_unless met sw = if met then None else Some sw

-- the order in which a card refuses
abbrev pub refusals : Needs → List (Option Sw)
refusals needs =
    refused_unless needs.channel CHANNEL_NOT_SUPPORTED
    ∷ refused_unless needs.instruction WRONG_INSTRUCTION
    ∷ refused_unless needs.class WRONG_CLASS
    ∷ refused_unless needs.parameters WRONG_P1_P2
    ∷ refused_unless needs.lengths WRONG_LENGTH
    ∷ needs.template
    ∷ needs.file
    ∷ refused_unless needs.kind INCOMPATIBLE_STRUCTURE
    ∷ needs.life
    ∷ needs.description
    ∷ refused_unless needs.access SECURITY_NOT_SATISFIED
    ∷ needs.own
    ∷ []
