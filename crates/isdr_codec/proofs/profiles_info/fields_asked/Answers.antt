use Rattle.std.proofs.Common.{◌∙◌}
use Rattle.isdr_codec.specs.ProfilesInfo.{tags_in}
use Rattle.isdr_codec.proofs.TagLemmas.{all_asked, none_asked}
use Rattle.isdr_codec.proofs.profiles_info.fields_asked.Goals as goal

pub returns-in_err-iccid : goal.returns-in_err-iccid
returns-in_err-iccid c = c.from_residual.ensures ∙ none_asked 0x5A 1 (tags_in c.args.bytes.now)
    c.in_err-iccid.ensures.value

pub returns-in_err-aid : goal.returns-in_err-aid
returns-in_err-aid c = c.from_residual-in_err-aid.ensures ∙ none_asked 0x4F 2
    (tags_in c.args.bytes.now) c.in_err-aid.ensures.value

pub returns-in_err-state : goal.returns-in_err-state
returns-in_err-state c = c.from_residual-in_err-state.ensures ∙ none_asked 0x9F70 4
    (tags_in c.args.bytes.now) c.in_err-state.ensures.value

pub returns-in_err-port : goal.returns-in_err-port
returns-in_err-port c = c.from_residual-in_err-port.ensures ∙ none_asked 0x9F24 8
    (tags_in c.args.bytes.now) c.in_err-port.ensures.value

pub returns-in_err-nickname : goal.returns-in_err-nickname
returns-in_err-nickname c = c.from_residual-in_err-nickname.ensures ∙ none_asked 0x90 16
    (tags_in c.args.bytes.now) c.in_err-nickname.ensures.value

pub returns-in_err-provider : goal.returns-in_err-provider
returns-in_err-provider c = c.from_residual-in_err-provider.ensures ∙ none_asked 0x91 32
    (tags_in c.args.bytes.now) c.in_err-provider.ensures.value

pub returns-in_err-name : goal.returns-in_err-name
returns-in_err-name c = c.from_residual-in_err-name.ensures ∙ none_asked 0x92 64
    (tags_in c.args.bytes.now) c.in_err-name.ensures.value

pub returns-in_err-class : goal.returns-in_err-class
returns-in_err-class c = c.from_residual-in_err-class.ensures ∙ none_asked 0x95 128
    (tags_in c.args.bytes.now) c.in_err-class.ensures.value

pub returns : goal.returns
returns c =
    all_asked (tags_in c.args.bytes.now) _ _ _ _ _ _ _ _ c.in_ok-iccid.ensures.value
    c.in_ok-aid.ensures.value c.in_ok-state.ensures.value c.in_ok-port.ensures.value
    c.in_ok-nickname.ensures.value c.in_ok-provider.ensures.value c.in_ok-name.ensures.value
    c.in_ok-class.ensures.value
