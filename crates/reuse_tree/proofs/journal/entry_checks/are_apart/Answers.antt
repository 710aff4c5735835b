use Rattle.std.proofs.Common.{◌≡◌, ◌∙◌, ◌+◌, List, ℕ, map, drop, sym, subst, ap₂}
use Rattle.std.specs.List.Sorted.{IsStrictlySortedBy}
use Rattle.std.proofs.lemmas.Bool.{false≢true}
use Rattle.std.proofs.lemmas.List.{take_rest}
use Rattle.reuse_change.specs.Change.{path_of}
use Rattle.reuse_change.specs.declared.change.Change.{Change}
use Rattle.reuse_change.specs.Listing.{is_folder_of}
use Rattle.reuse_tree.proofs.EntryPaths.{before, sorted_later, apart_step, not_apart_from}
use Rattle.reuse_tree.proofs.journal.entry_checks.are_apart.Goals.{After-has_file_under}
use Rattle.reuse_tree.proofs.journal.entry_checks.are_apart.Goals as goal

pub has_file_under-requires : goal.has_file_under-requires
has_file_under-requires c =
    let cs = c.args.changes.now in
    let i = c.loop-i.i in
    subst (λ (l : List Change). IsStrictlySortedBy before (map path_of l)) (sym (take_rest cs (i + 1)))
    (sorted_later cs i c.index-changes-i.result c.loop-i-test.true c.index-changes-i.is c.requires)

-- the test reports whether a later change lies under the path of this one
reported : (c : After-has_file_under) → c.has_file_under.result ≡ is_folder_of
    (map path_of (drop (c.loop-i.i + 1) c.args.changes.now)) (path_of c.index-changes-i.result)
reported c = c.has_file_under.ensures ∙ ap₂ (λ (l : List Change) (p : List ℕ). is_folder_of (map path_of l) p)
    (take_rest c.args.changes.now (c.loop-i.i + 1)) c.path.ensures

pub returns-then-has_file_under : goal.returns-then-has_file_under
returns-then-has_file_under c =
    let found =
    sym (reported (goal.at.returns-then-has_file_under c).After-has_file_under) ∙ c.if-has_file_under.true in (
      λ e. absurd (false≢true e),
      λ apart. absurd (not_apart_from c.args.changes.now c.loop-i.i c.index-changes-i.result c.loop-i-test.true
          c.index-changes-i.is found (c.loop-i.invariant.0 apart)),
    )

pub loop-i-preserved : goal.loop-i-preserved
loop-i-preserved c =
    let none = sym (reported (goal.at.loop-i-preserved c).After-has_file_under) ∙ c.if-has_file_under.false in
    let step = apart_step c.args.changes.now c.loop-i.i c.index-changes-i.result c.loop-i-test.true c.index-changes-i.is
    c.requires none in
    (λ h. step.0 (c.loop-i.invariant.0 h), λ h. c.loop-i.invariant.1 (step.1 h))
