use Rattle.std.proofs.Common.{List, ℕ, OnOk, Some, refl, rules}
use Rattle.reuse_shown.specs.JoinedTexts.{AppendsSome}
use Rattle.reuse_report.proofs.DrawnLemmas.{within_drawn}
use Rattle.reuse_report.proofs.drawn.draw_within.Goals as goal

pub returns-clause-drawn : goal.returns-clause-drawn
returns-clause-drawn c within =
    let Holds : (List ℕ → Type 0) → Type 0 = λ IsText. OnOk c.in_memory.result
    (AppendsSome (Some c.args.text.now.items) (Some c.print_diff.new.out.items) IsText) in
    within_drawn Holds c.args.range.path.now c.args.file.now c.args.file.now _ _ c.bytes_of-old_len.result.now
    c.bytes_of-new.result.now c.args.at refl c.bytes_of-old_len.ensures c.bytes_of-new.ensures
    within (λ fits small. search rules)
