use Rattle.std.proofs.Common.{◌≢◌, ℕ, List, length, drop, ◌∙◌, arith}
use Rattle.std.proofs.lemmas.List.{length-drop}
use Rattle.ber_tlv.proofs.ObjectLemmas.{no_object, object_read}
use Rattle.ber_tlv.specs.Walk.{object_of}
use Rattle.uicc_admin.proofs.TemplateLemmas.{false_left, false_right, not_that, nothing_read}
use Rattle.uicc_admin.proofs.TemplateLemmas.{other_read, template_read}
use Rattle.uicc_admin.proofs.template.read_template.Goals as goal
use Rattle.uicc_admin.proofs.template.read_template.Goals.{in_default-via-in-Ok+then-tlv-eq98+else-count-body}
use Rattle.uicc_admin.proofs.template.read_template.Goals.{in_default-via-in-Ok+else-tlv-eq98}
use Rattle.uicc_admin.proofs.template.read_template.Goals.{in_default-via-in_default}

pub returns-in-Ok : goal.returns-in-Ok
returns-in-Ok c =
    let behind : List ℕ = drop c.in-Ok.count c.args.body.now in
    c.read_fields.ensures
    ∙ template_read c.args.body.now (object_of c.in-Ok.tlv) behind (object_read c.args.body.now (object_of c.in-Ok.tlv) behind c.in-Ok.ensures.found) c.if-tlv-eq98.true
    (omega (arith, length-drop c.in-Ok.count c.args.body.now, c.if-count-body.true))

pub returns-in_default : goal.returns-in_default
returns-in_default c =
    elim c.in_default.branch [
      | in_default-via-in-Ok+then-tlv-eq98+else-count-body w ↦
          let behind : List ℕ = drop w.in-Ok.count c.args.body.now in
          let more : length behind ≢ 0 = λ e. w.if-count-body.false (omega (arith, e, length-drop w.in-Ok.count c.args.body.now, w.in-Ok.ensures.within)) in
          other_read c.args.body.now (object_of w.in-Ok.tlv) behind (object_read c.args.body.now (object_of w.in-Ok.tlv) behind w.in-Ok.ensures.found)
          (false_right _ _ (not_that (length behind) 0 more))
      | in_default-via-in-Ok+else-tlv-eq98 w ↦
          let behind : List ℕ = drop w.in-Ok.count c.args.body.now in
          other_read c.args.body.now (object_of w.in-Ok.tlv) behind (object_read c.args.body.now (object_of w.in-Ok.tlv) behind w.in-Ok.ensures.found)
          (false_left _ _ (not_that w.in-Ok.tlv.tag 0x62 w.if-tlv-eq98.false))
      | in_default-via-in_default w ↦ nothing_read c.args.body.now (no_object c.args.body.now w.in_default.ensures.only)
    ]
