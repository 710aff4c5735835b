use Rattle.std.proofs.Common.{◌∙◌, ℕ, List, OnOk, Some, ap}
use Rattle.std.specs.FinMap.{get}
use Rattle.std.specs.Option.{option_copied}
use Rattle.reuse_shown.specs.JoinedTexts.{AppendsSome}
use Rattle.reuse_report.proofs.DrawnLemmas.{drawn_range}
use Rattle.reuse_report.proofs.drawn.draw_one.Goals as goal

pub returns-in-Splice-clause-drawn : goal.returns-in-Splice-clause-drawn
returns-in-Splice-clause-drawn g c honest before after tree small applies =
    let arm = c.in-Splice in
    let turn = c.diff_input_of-turn.result in
    let is = c.diff_input_of-turn.ensures in
    let name = turn.path.now in
    let Holds : (List ℕ → Type 0) → Type 0 = λ IsText. OnOk c.draw_range.result
    (AppendsSome (Some c.args.text.now.items) (Some c.draw_range.new.text.items) IsText) in
    drawn_range c.args.direction c.args.change.now arm.path arm.at arm.old arm.new arm.rest arm.seal arm.is before after
    name (option_copied turn.before) (option_copied turn.after) is.path is.before is.after small applies
    Holds (λ file there within. c.draw_range.ensures.drawn honest file (ap (λ f. get f name) tree ∙ there) within)
