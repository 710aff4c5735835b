use Rattle.std.proofs.Common.{◌∙◌, sym, refl, map, [], arith}
use Rattle.std.proofs.lemmas.Bool.{false≢true}
use Rattle.std.proofs.lemmas.Cmp.{nat_list_cmp_total}
use Rattle.std.proofs.lemmas.List.{length-map}
use Rattle.std.proofs.lemmas.Map.Keys.{sorted_from_all_adjacent}
use Rattle.reuse_change.specs.Change.{path_of}
use Rattle.reuse_tree.proofs.EntryPaths.{not_ascending, ascends_more}
use Rattle.reuse_tree.proofs.journal.entry_checks.ascend.Goals as goal

pub returns-then-not-precedes : goal.returns-then-not-precedes
returns-then-not-precedes c = (
  λ e. absurd (false≢true e),
  λ sorted. absurd
      (not_ascending c.args.changes.now c.loop-i.i c.index-changes-i.result c.index-changes-i-in-loop-i.result
      c.loop-i.auto.i c.loop-i-test.true c.index-changes-i.is c.index-changes-i-in-loop-i.is
      (λ less. false≢true (sym c.if-not-precedes.true ∙ c.precedes.ensures.1 less)) sorted),
)

pub loop-i-preserved : goal.loop-i-preserved
loop-i-preserved c =
    ascends_more c.args.changes.now c.loop-i.i c.index-changes-i.result c.index-changes-i-in-loop-i.result
    c.loop-i.auto.i c.loop-i-test.true c.index-changes-i.is c.index-changes-i-in-loop-i.is
    (c.precedes.ensures.0 c.if-not-precedes.false) c.loop-i.invariant

pub returns : goal.returns
returns c = (
  λ e. sorted_from_all_adjacent nat_list_cmp_total (map path_of c.args.changes.now) []
      (λ k h. c.loop-i.invariant k (omega (arith, length-map c.args.changes.now path_of, h))),
  λ s. refl,
)
