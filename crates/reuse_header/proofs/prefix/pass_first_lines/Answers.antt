use Rattle.std.proofs.Common.{length, sym}
use Rattle.std.proofs.lemmas.Bool.{eqb-true}
use Rattle.reuse_text.specs.Lines.{lines_left}
use Rattle.reuse_header.proofs.PassedLemmas.{empty_passes, first-goes, first-ends}
use Rattle.reuse_header.proofs.PassedLemmas.{none-begins, none-left}
use Rattle.reuse_header.proofs.prefix.pass_first_lines.Goals as goal

pub loop-line-preserved : goal.loop-line-preserved
loop-line-preserved c =
    first-goes _ _ (lines_left c.loop-line.passed.rest) (lines_left c.next.new.self) c.loop-line.passed.last c.in-Some.line
    c.loop-line.invariant c.in-Some.ensures.steps (sym c.if-begins_with_one.ensures)

pub returns-in_default-clause-rest : goal.returns-in_default-clause-rest
returns-in_default-clause-rest c =
    (first-ends _ _ (lines_left c.loop-line.passed.rest) c.loop-line.passed.last c.loop-line.invariant
    (none-begins _ _ (lines_left c.next.new.self) c.in-Some.line c.in-Some.ensures.steps
    (sym c.if-begins_with_one.ensures))).0

pub returns-in_default-clause-last : goal.returns-in_default-clause-last
returns-in_default-clause-last c =
    (first-ends _ _ (lines_left c.loop-line.passed.rest) c.loop-line.passed.last c.loop-line.invariant
    (none-begins _ _ (lines_left c.next.new.self) c.in-Some.line c.in-Some.ensures.steps
    (sym c.if-begins_with_one.ensures))).1

pub returns-in_default-2-clause-rest : goal.returns-in_default-2-clause-rest
returns-in_default-2-clause-rest c =
    (first-ends _ _ (lines_left c.loop-line.passed.rest) c.loop-line.passed.last c.loop-line.invariant
    (none-left _ (lines_left c.loop-line.passed.rest) (rw c.in_default.is at c.next.ensures.steps).0)).0

pub returns-in_default-2-clause-last : goal.returns-in_default-2-clause-last
returns-in_default-2-clause-last c =
    (first-ends _ _ (lines_left c.loop-line.passed.rest) c.loop-line.passed.last c.loop-line.invariant
    (none-left _ (lines_left c.loop-line.passed.rest) (rw c.in_default.is at c.next.ensures.steps).0)).1

pub returns-then-is_empty-clause-rest : goal.returns-then-is_empty-clause-rest
returns-then-is_empty-clause-rest c =
    (empty_passes _ c.none_passed-passed.result c.args.lines c.none_passed-passed.ensures
    (eqb-true (length c.args.beginnings.now) 0 (sym c.if-is_empty.ensures))).0

pub returns-then-is_empty-clause-last : goal.returns-then-is_empty-clause-last
returns-then-is_empty-clause-last c =
    (empty_passes _ c.none_passed-passed.result c.args.lines c.none_passed-passed.ensures
    (eqb-true (length c.args.beginnings.now) 0 (sym c.if-is_empty.ensures))).1
