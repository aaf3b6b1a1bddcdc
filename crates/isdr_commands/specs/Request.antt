-- What a request comes to and its answer, by the heads, the ports whose REFRESH isn't over, and the
-- port on which the request came.
use Rattle.std.specs.Prelude.{ℕ, Bool, List}
use Rattle.isdr_codec.specs.Reply.{reply_bytes}
use Rattle.isdr_codec.specs.declared.request.Request.{Request}
use Rattle.isdr_codec.specs.declared.request.Request.TheVariants.{Info, Nickname, Enable, Disable}
use Rattle.isdr_codec.specs.declared.request.Request.TheVariants.{Delete, MemoryReset, Eid}
use Rattle.isdr_codec.specs.declared.request.Request.TheVariants.{NoteList, NoteSent}
use Rattle.isdr_commands.specs.DeleteProfile.{deleting_named}
use Rattle.isdr_commands.specs.DisableProfile.{disabling_named}
use Rattle.isdr_commands.specs.EnableProfile.{enabling_named}
use Rattle.isdr_commands.specs.GetEid.{eid_told}
use Rattle.isdr_commands.specs.ListNotification.{notes_told}
use Rattle.isdr_commands.specs.MemoryReset.{memory_reset}
use Rattle.isdr_commands.specs.NotificationSent.{note_sent}
use Rattle.isdr_commands.specs.ProfilesInfo.{profiles_info}
use Rattle.isdr_commands.specs.SetNickname.{naming}
use Rattle.isdr_commands.specs.declared.decision.Decision.{Decision}
use Rattle.record_codec.specs.declared.durable.Heads.{Heads}

abbrev pub managed : Heads → List Bool → ℕ → Request → Decision
managed heads busy came (Info search fields) = profiles_info heads search fields
managed heads busy came (Nickname iccid name) = naming heads iccid name
managed heads busy came (Enable who refresh port) = enabling_named heads busy came who refresh port
managed heads busy came (Disable who refresh) = disabling_named heads busy who refresh
managed heads busy came (Delete who) = deleting_named heads who
managed heads busy came (MemoryReset operational test) =
    memory_reset heads busy operational test
managed heads busy came Eid = eid_told
managed heads busy came (NoteList operations) = notes_told operations
managed heads busy came (NoteSent number) = note_sent heads number

-- the bytes that answer a request
abbrev pub answer_to : Heads → List Bool → ℕ → Request → List ℕ
answer_to heads busy came request = reply_bytes (managed heads busy came request).reply heads
