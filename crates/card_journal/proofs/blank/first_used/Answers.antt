use Rattle.std.proofs.Common.{◌≡◌, ℕ, Option, Some, None, IfNone, length, refl, arith, rules}
use Rattle.card_journal.proofs.BankLemmas.{reads_none, reads_then}
use Rattle.card_journal.proofs.OpenLemmas.{all_blank, none_blank, only_reads, piece_blank}
use Rattle.card_journal.proofs.OpenLemmas.{piece_used}
use Rattle.card_journal.proofs.blank.first_used.Goals as goal

-- what holds where there is none
none_of : (o : Option ℕ) (P : Type 0) → ((x : ℕ) → o ≡ Some x → ⊥) → IfNone o P → P
none_of None P never holds = holds
none_of (Some x) P never holds = absurd (never x refl)

pub pieces-init : goal.pieces-init
pieces-init g c =
    let start = g.F.Flash.state c.args.flash.now in
    record {
      behind = omega arith;
      within = c.requires.order;
      erased = none_blank start c.args.from;
      reads = reads_none start (g.met.F.Flash.lawful c.args.flash.now);
    }

pub pieces-preserved : goal.pieces-preserved
pieces-preserved g c =
    let start = g.F.Flash.state c.args.flash.now in
    let before = g.F.Flash.state c.pieces.flash in
    let after = g.F.Flash.state c.read.new.self in
    let so_far = c.pieces.invariant in
    let long : length c.read.new.buf ≡ c.min-n.result = search rules in
    record {
      behind = omega (arith, so_far.behind);
      within = omega (arith, so_far.within);
      erased = piece_blank start before c.args.from c.pieces.at c.min-n.result c.read.new.buf so_far.reads so_far.behind long (search rules) so_far.erased
          (none_of c.used_in.result _ (first_of (search (rules, c.in_default.not-Some), grind (arith, c.in_default.not-Some))) c.used_in.ensures.none);
      reads = reads_then start before after (g.met.F.Flash.lawful c.read.new.self) so_far.reads (only_reads before after c.read.ensures.reads);
    }

pub returns-in-Some-clause-first : goal.returns-in-Some-clause-first
returns-in-Some-clause-first g c =
    let start = g.F.Flash.state c.args.flash.now in
    let before = g.F.Flash.state c.pieces.flash in
    let so_far = c.pieces.invariant in
    let long : length c.read.new.buf ≡ c.min-n.result = search rules in
    piece_used start before c.args.from c.pieces.at c.min-n.result c.read.new.buf so_far.reads so_far.behind long (search rules) so_far.erased
    c.in-Some.place c.args.to c.in-Some.ensures.within (omega (arith, so_far.within)) c.in-Some.ensures.used c.in-Some.ensures.before

pub returns-clause-first : goal.returns-clause-first
returns-clause-first g c =
    let start = g.F.Flash.state c.args.flash.now in
    all_blank start c.args.from c.pieces.at c.args.to (search rules) c.pieces.invariant.within c.pieces.invariant.erased
