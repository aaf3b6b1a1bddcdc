-- The requests to the ISD-R (GSMA SGP.22, ES10b and ES10c): each is one data object with nothing
-- behind it, whose tag says which request it is.
use Rattle.std.specs.Prelude.{ℕ, ◌==◌, if◌then◌else◌, List, Option, Some, None, option_and_then}
use Rattle.std.specs.Prelude.{Result, Err}
use Rattle.std.specs.Option.{ok_or}
use Rattle.apdu_codec.specs.declared.status.Sw.{Sw}
use Rattle.apdu_codec.specs.declared.status.TheConstants.Sw.{DATA_NOT_FOUND, WRONG_DATA}
use Rattle.ber_tlv.specs.Objects.{objects_of}
use Rattle.ber_tlv.specs.Walk.{Object}
use Rattle.isdr_codec.specs.DeleteProfile.{delete_in}
use Rattle.isdr_codec.specs.DisableProfile.{disable_in}
use Rattle.isdr_codec.specs.EnableProfile.{enable_in}
use Rattle.isdr_codec.specs.Fields.{sole}
use Rattle.isdr_codec.specs.GetEid.{eid_in}
use Rattle.isdr_codec.specs.ListNotification.{note_list_in}
use Rattle.isdr_codec.specs.MemoryReset.{memory_reset_in}
use Rattle.isdr_codec.specs.NotificationSent.{note_sent_in}
use Rattle.isdr_codec.specs.ProfilesInfo.{profiles_info_in}
use Rattle.isdr_codec.specs.SetNickname.{nickname_in}
use Rattle.isdr_codec.specs.declared.request.Request.{Request}

-- what the fields say, where they are well formed
abbrev pub fields_read : Option Request → Result Request Sw
fields_read request = ok_or request WRONG_DATA

-- a request by its tag, or `6A88` where no request has the tag
abbrev pub request_by : Object → Result Request Sw
request_by object =
    if object.tag == 0xBF2D then fields_read (profiles_info_in object.value)
    else (if object.tag == 0xBF29 then fields_read (nickname_in object.value)
    else (if object.tag == 0xBF31 then fields_read (enable_in object.value)
    else (if object.tag == 0xBF32 then fields_read (disable_in object.value)
    else (if object.tag == 0xBF33 then fields_read (delete_in object.value)
    else (if object.tag == 0xBF34 then fields_read (memory_reset_in object.value)
    else (if object.tag == 0xBF3E then fields_read (eid_in object.value)
    else (if object.tag == 0xBF28 then fields_read (note_list_in object.value)
    else (if object.tag == 0xBF30 then fields_read (note_sent_in object.value)
    else Err DATA_NOT_FOUND))))))))

abbrev pub request_where : Option Object → Result Request Sw
request_where None = Err WRONG_DATA
request_where (Some object) = request_by object

-- bytes that aren't one whole data object are `6A80`
abbrev pub request_of : List ℕ → Result Request Sw
request_of bytes = request_where (option_and_then sole (objects_of bytes))
