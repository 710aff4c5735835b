use Rattle.std.proofs.Common.{OnOk, ℕ, List}
use Rattle.std.specs.Option.{option_copied}
use Rattle.reuse_shown.specs.JoinedTexts.{AppendsSome}
use Rattle.reuse_diff.proofs.DiffTextLemmas.{record_range, record_whole}
use Rattle.reuse_diff.proofs.print_record.Goals as goal

pub returns-in-Splice : goal.returns-in-Splice
returns-in-Splice g c =
    let arm = c.in-Splice in
    let input = c.of-input.result in
    let is = c.of-input.ensures in
    let Holds : (List ℕ → Type 0) → Type 0 = λ IsText. OnOk c.print_range.result
    (AppendsSome (g.W.Write.contents c.args.out.now) (g.W.Write.contents c.print_range.new.out) IsText) in
    record_range c.args.change.now arm.path arm.at arm.old arm.new arm.rest arm.seal arm.is input.path.now
    (option_copied input.before) (option_copied input.after) is.path is.before is.after Holds
    c.print_range.ensures

pub returns-in-Make : goal.returns-in-Make
returns-in-Make g c =
    let input = c.of-input.result in
    let is = c.of-input.ensures in
    let Holds : (List ℕ → Type 0) → Type 0 = λ IsText. OnOk c.print_diff.result
    (AppendsSome (g.W.Write.contents c.args.out.now) (g.W.Write.contents c.print_diff.new.out) IsText) in
    record_whole c.args.change.now (rw c.in-Make.is tt) input.path.now (option_copied input.before)
    (option_copied input.after) is.path is.before is.after Holds c.print_diff.ensures

pub returns-in-Drop : goal.returns-in-Drop
returns-in-Drop g c =
    let input = c.of-input.result in
    let is = c.of-input.ensures in
    let Holds : (List ℕ → Type 0) → Type 0 = λ IsText. OnOk c.print_diff-in-Drop.result
    (AppendsSome (g.W.Write.contents c.args.out.now) (g.W.Write.contents c.print_diff-in-Drop.new.out) IsText) in
    record_whole c.args.change.now (rw c.in-Drop.is tt) input.path.now (option_copied input.before)
    (option_copied input.after) is.path is.before is.after Holds c.print_diff-in-Drop.ensures
