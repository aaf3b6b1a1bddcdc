-- GSMA SGP.22, ES10c.SetNickname: 5A with the profile's ICCID, and 90 with its nickname, at most 64
-- bytes of UTF-8.
use Rattle.std.specs.Prelude.{ℕ, List, Option, option_and_then, option_map}
use Rattle.isdr_codec.specs.Fields.{needed_in}
use Rattle.isdr_codec.specs.Values.{of_length, text_in}
use Rattle.isdr_codec.specs.declared.request.Request.{Request}
use Rattle.isdr_codec.specs.declared.request.Request.TheVariants.{Nickname}

abbrev pub nickname_in : List ℕ → Option Request
nickname_in value = option_and_then
    (λ iccid. option_map (Nickname iccid) (option_and_then (text_in 64) (needed_in 0x90 value)))
    (option_and_then (of_length 10) (needed_in 0x5A value))
