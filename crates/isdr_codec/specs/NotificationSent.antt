-- GSMA SGP.22, ES10b.NotificationSent: 80 with the number of the notification.
use Rattle.std.specs.Prelude.{ℕ, List, Option, option_and_then, option_map}
use Rattle.isdr_codec.specs.Fields.{needed_in}
use Rattle.isdr_codec.specs.Values.{number_in}
use Rattle.isdr_codec.specs.declared.request.Request.{Request}
use Rattle.isdr_codec.specs.declared.request.Request.TheVariants.{NoteSent}

abbrev pub note_sent_in : List ℕ → Option Request
note_sent_in value = option_map NoteSent (option_and_then number_in (needed_in 0x80 value))
