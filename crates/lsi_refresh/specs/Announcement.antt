use Rattle.std.specs.Prelude.{◌==◌, if◌then◌else◌}
use Rattle.apdu_codec.specs.declared.answers.Answer.{Answer}
use Rattle.apdu_codec.specs.declared.status.TheConstants.Sw.{PROACTIVE}
use Rattle.uicc_channels.specs.CommandOutcome.{CommandOutcome}
use Rattle.uicc_channels.specs.declared.session.Refresh.{Refresh}
use Rattle.uicc_channels.specs.declared.session.Refresh.TheVariants.{Announced, Fetched, Quiet}

-- an answer that ends in 9000 ends in 910B, and any other stays
abbrev pub announcing : Answer → Answer
announcing answer =
    if answer.sw.0 == 0x9000 then record answer { sw = PROACTIVE } else answer

-- an answer, by the state of the REFRESH after its command
abbrev pub announcing_in : Refresh → Answer → Answer
announcing_in Announced answer = announcing answer
announcing_in Fetched answer = answer
announcing_in Quiet answer = answer

-- ETSI TS 102 221, normal ending with a proactive command: what a command comes to with the REFRESH
-- announced that waits after it
abbrev pub announced : CommandOutcome → CommandOutcome
announced outcome =
    record outcome { answer = announcing_in outcome.session.refresh outcome.answer }
