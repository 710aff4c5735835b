use Rattle.std.proofs.Common.{◌≡◌, ◌+◌, ◌∙◌, sym, length, drop, arith, length-drop}
use Rattle.std.proofs.lemmas.List.{take_rest}
use Rattle.reuse_header.proofs.LeadPlaces.{lead_here, none_at_all, none_past, none_up_to, none_yet}
use Rattle.reuse_header.proofs.search.holds_lead.Goals as goal

pub loop-start-init : goal.loop-start-init
loop-start-init c = record { within = omega arith; none = none_yet c.args.file.now }

pub returns-in_default : goal.returns-in_default
returns-in_default c =
    let lacking = rw (take_rest c.args.file.now c.loop-start.start) at c.in_default.ensures in
    let end : c.loop-start.start + length (drop c.loop-start.start c.args.file.now) ≡ length c.args.file.now =
    omega (arith, length-drop c.loop-start.start c.args.file.now) in
    none_at_all c.args.file.now (rw end at (none_up_to c.args.file.now c.loop-start.start
    (length (drop c.loop-start.start c.args.file.now)) c.loop-start.invariant.none lacking))

pub returns-then-begins_with_lead : goal.returns-then-begins_with_lead
returns-then-begins_with_lead c =
    let high = rw (take_rest c.args.file.now c.loop-start.start) at c.in-Some.ensures.0.high in
    let here = sym (rw (take_rest c.args.file.now (c.loop-start.start + c.in-Some.step)) at c.begins_with_lead.ensures)
    ∙ c.if-begins_with_lead.true in
    lead_here c.args.file.now (c.loop-start.start + c.in-Some.step)
    (omega (arith, high, length-drop c.loop-start.start c.args.file.now)) here

pub loop-start-preserved : goal.loop-start-preserved
loop-start-preserved c =
    let high = rw (take_rest c.args.file.now c.loop-start.start) at c.in-Some.ensures.0.high in
    let lacking = rw (take_rest c.args.file.now c.loop-start.start) at c.in-Some.ensures.0.before in
    let not_here =
    sym (rw (take_rest c.args.file.now (c.loop-start.start + c.in-Some.step)) at c.begins_with_lead.ensures)
    ∙ c.if-begins_with_lead.false in
    record {
      within = omega (arith, high, length-drop c.loop-start.start c.args.file.now);
      none = none_past c.args.file.now (c.loop-start.start + c.in-Some.step)
          (none_up_to c.args.file.now c.loop-start.start c.in-Some.step c.loop-start.invariant.none lacking) not_here;
    }

pub returns : goal.returns
returns c =
    let end : c.loop-start.start ≡ length c.args.file.now = omega arith in
    none_at_all c.args.file.now (rw end at c.loop-start.invariant.none)
