-- A nickname that is read from a request has at most 64 bytes.
use Rattle.std.proofs.Common.{◌≡◌, ℕ, Bool, true, false, cond, ◌==◌, ◌&&◌, List, length}
use Rattle.std.proofs.Common.{nat_le, Option, Some, None, Result, Err, refl, arith}
use Rattle.std.proofs.Common.{if◌then◌else◌}
use Rattle.std.specs.Prelude.{IfSome, IfOk, option_map, option_and_then}
use Rattle.std.specs.Str.{is_utf8}
use Rattle.apdu_codec.specs.declared.status.Sw.{Sw}
use Rattle.apdu_codec.specs.declared.status.TheConstants.Sw.{DATA_NOT_FOUND}
use Rattle.ber_tlv.specs.Objects.{objects_of}
use Rattle.ber_tlv.specs.Walk.{Object}
use Rattle.isdr_codec.specs.DeleteProfile.{delete_in}
use Rattle.isdr_codec.specs.DisableProfile.{disable_in}
use Rattle.isdr_codec.specs.EnableProfile.{enable_in, port_where}
use Rattle.isdr_codec.specs.Fields.{field_in, needed_in, sole}
use Rattle.isdr_codec.specs.GetEid.{eid_in}
use Rattle.isdr_codec.specs.ListNotification.{note_list_in, operations_where}
use Rattle.isdr_codec.specs.MemoryReset.{memory_reset_in}
use Rattle.isdr_codec.specs.NotificationSent.{note_sent_in}
use Rattle.isdr_codec.specs.ProfilesInfo.{fields_where, profiles_info_in}
use Rattle.isdr_codec.specs.Request.{fields_read, request_by, request_of, request_where}
use Rattle.isdr_codec.specs.Search.{search_where}
use Rattle.isdr_codec.specs.SetNickname.{nickname_in}
use Rattle.isdr_codec.specs.Values.{bit_0, bit_1, bits_in, flag_in, number_in, of_length, text_in}
use Rattle.isdr_codec.specs.Who.{who_in}
use Rattle.isdr_codec.specs.declared.request.Request.{Request}
use Rattle.isdr_codec.specs.declared.request.Request.TheVariants as requests
use Rattle.isdr_commands.specs.Laws.{HasShortNickname}

module _ {X Y : Type 0} (P : Y → Type 0) where
  map_has : (make : X → Y) → ((x : X) → P (make x)) → (o : Option X) → IfSome (option_map make o) P
  map_has make each None = tt
  map_has make each (Some x) = each x

  then_has : (goes_on : X → Option Y) → ((x : X) → IfSome (goes_on x) P) → (o : Option X)
      → IfSome (option_and_then goes_on o) P
  then_has goes_on each None = tt
  then_has goes_on each (Some x) = each x

-- a nickname that was read has at most 64 bytes
short_text : (iccid : List ℕ) (o : Option (List ℕ))
    → IfSome (option_map (requests.Nickname iccid) (option_and_then (text_in 64) o)) HasShortNickname
short_text iccid None = tt
short_text iccid (Some value) = by (nat_le (length value) 64) (is_utf8 value) refl
  where
    by : (few text : Bool) → nat_le (length value) 64 ≡ few
        → IfSome (option_map (requests.Nickname iccid) (cond (few && text) (Some value) None))
        HasShortNickname
    by true true is = grind (arith, is)
    by true false is = tt
    by false text is = tt

read_has : (o : Option Request) → IfSome o HasShortNickname → IfOk (fields_read o) HasShortNickname
read_has None short = tt
read_has (Some request) short = short

either : (first : Bool) (one other : Result Request Sw) → IfOk one HasShortNickname
    → IfOk other HasShortNickname → IfOk (cond first one other) HasShortNickname
either true one other short shorter = short
either false one other short shorter = shorter

short_info : (value : List ℕ) → IfSome (profiles_info_in value) HasShortNickname
short_info value =
    then_has HasShortNickname
    (λ search. option_map (requests.Info search) (option_and_then fields_where (field_in 0x5C value)))
    (λ search. map_has HasShortNickname (requests.Info search) (λ fields. tt)
    (option_and_then fields_where (field_in 0x5C value)))
    (option_and_then search_where (field_in 0xA0 value))

short_nickname : (value : List ℕ) → IfSome (nickname_in value) HasShortNickname
short_nickname value =
    then_has HasShortNickname
    (λ iccid. option_map (requests.Nickname iccid)
    (option_and_then (text_in 64) (needed_in 0x90 value)))
    (λ iccid. short_text iccid (needed_in 0x90 value))
    (option_and_then (of_length 10) (needed_in 0x5A value))

short_enable : (value : List ℕ) → IfSome (enable_in value) HasShortNickname
short_enable value =
    then_has HasShortNickname
    (λ who. option_and_then (λ refresh. option_map (requests.Enable who refresh)
    (option_and_then port_where (field_in 0x82 value)))
    (option_and_then flag_in (needed_in 0x81 value)))
    (λ who. then_has HasShortNickname
    (λ refresh. option_map (requests.Enable who refresh)
    (option_and_then port_where (field_in 0x82 value)))
    (λ refresh. map_has HasShortNickname (requests.Enable who refresh) (λ port. tt)
    (option_and_then port_where (field_in 0x82 value)))
    (option_and_then flag_in (needed_in 0x81 value)))
    (option_and_then who_in (needed_in 0xA0 value))

short_disable : (value : List ℕ) → IfSome (disable_in value) HasShortNickname
short_disable value =
    then_has HasShortNickname
    (λ who. option_map (requests.Disable who) (option_and_then flag_in (needed_in 0x81 value)))
    (λ who. map_has HasShortNickname (requests.Disable who) (λ refresh. tt)
    (option_and_then flag_in (needed_in 0x81 value)))
    (option_and_then who_in (needed_in 0xA0 value))

short_delete : (value : List ℕ) → IfSome (delete_in value) HasShortNickname
short_delete value = map_has HasShortNickname requests.Delete (λ who. tt) (who_in value)

short_reset : (value : List ℕ) → IfSome (memory_reset_in value) HasShortNickname
short_reset value =
    map_has HasShortNickname (λ bits. requests.MemoryReset (bit_0 bits) (bit_1 bits)) (λ bits. tt)
    (option_and_then bits_in (needed_in 0x82 value))

short_eid : (value : List ℕ) → IfSome (eid_in value) HasShortNickname
short_eid value =
    then_has HasShortNickname (λ tag. if tag == 0x5A then Some requests.Eid else None)
    (λ tag. by (tag == 0x5A)) (option_and_then sole (needed_in 0x5C value))
  where
    by : (is : Bool) → IfSome (if is then Some requests.Eid else None) HasShortNickname
    by true = tt
    by false = tt

short_list : (value : List ℕ) → IfSome (note_list_in value) HasShortNickname
short_list value =
    map_has HasShortNickname requests.NoteList (λ operations. tt)
    (option_and_then operations_where (field_in 0x81 value))

short_sent : (value : List ℕ) → IfSome (note_sent_in value) HasShortNickname
short_sent value =
    map_has HasShortNickname requests.NoteSent (λ number. tt)
    (option_and_then number_in (needed_in 0x80 value))

-- one more kind of request
abbrev kind_or : Object → ℕ → Option Request → Result Request Sw → Result Request Sw
kind_or object tag request other = if object.tag == tag then fields_read request else other

kind_short : (object : Object) (tag : ℕ) (request : Option Request) (other : Result Request Sw)
    → IfSome request HasShortNickname → IfOk other HasShortNickname
    → IfOk (kind_or object tag request other) HasShortNickname
kind_short object tag request other short shorter =
    either (object.tag == tag) (fields_read request) other (read_has request short) shorter

by_kind : (object : Object) → IfOk (request_by object) HasShortNickname
by_kind object =
    let value : List ℕ = object.value in
    kind_short object 0xBF2D (profiles_info_in value) _ (short_info value)
    (kind_short object 0xBF29 (nickname_in value) _ (short_nickname value)
    (kind_short object 0xBF31 (enable_in value) _ (short_enable value)
    (kind_short object 0xBF32 (disable_in value) _ (short_disable value)
    (kind_short object 0xBF33 (delete_in value) _ (short_delete value)
    (kind_short object 0xBF34 (memory_reset_in value) _ (short_reset value)
    (kind_short object 0xBF3E (eid_in value) _ (short_eid value)
    (kind_short object 0xBF28 (note_list_in value) _ (short_list value)
    (kind_short object 0xBF30 (note_sent_in value) (Err DATA_NOT_FOUND) (short_sent value) tt))))))))

pub short_requests : (bytes : List ℕ) → IfOk (request_of bytes) HasShortNickname
short_requests bytes = by (option_and_then sole (objects_of bytes))
  where
    by : (object : Option Object) → IfOk (request_where object) HasShortNickname
    by None = tt
    by (Some object) = by_kind object
