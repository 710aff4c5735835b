use Rattle.std.proofs.Common.{◌∙◌, ℕ, List, [], length, OnOk, Some, sym, subst}
use Rattle.std.specs.Option.{option_copied}
use Rattle.std.specs.Prelude.{unwrap_or}
use Rattle.reuse_text.specs.Text.{spliced}
use Rattle.reuse_diff.specs.DiffText.{IsDiff}
use Rattle.reuse_report.specs.Drawn.{IsRangeWithin}
use Rattle.reuse_shown.specs.JoinedTexts.{AppendsSome}
use Rattle.reuse_report.proofs.DrawnLemmas.{absent_drawn, found_drawn, long_drawn}
use Rattle.reuse_report.proofs.drawn.draw_range.Goals as goal

pub returns-in-Ok-Found-clause-drawn : goal.returns-in-Ok-Found-clause-drawn
returns-in-Ok-Found-clause-drawn g c honest file there within =
    let arm = c.in-Ok-Found in
    let same = found_drawn (g.S.Store.files c.args.store.now) c.args.range.path.now file arm.file there
    (sym arm.field-0-is ∙ arm.ensures.reading honest) in
    let turn = c.args.range in
    let found = c.as_slice.result.now in
    let is = c.as_slice.ensures ∙ sym same in
    let old = unwrap_or (option_copied turn.before) [] in
    let new = unwrap_or (option_copied turn.after) [] in
    let Holds : (List ℕ → Type 0) → Type 0 = λ IsText. OnOk c.draw_within.result
    (AppendsSome (Some c.args.text.now.items) (Some c.draw_within.new.text.items) IsText) in
    subst (λ f. Holds (IsDiff turn.path.now (Some f) (Some (spliced f c.args.at (length old) new)))) is
    (c.draw_within.ensures.drawn (subst (λ f. IsRangeWithin f c.args.at old new) (sym is) within))

pub returns-in-Ok-Absent-clause-drawn : goal.returns-in-Ok-Absent-clause-drawn
returns-in-Ok-Absent-clause-drawn g c honest file there within =
    let arm = c.in-Ok-Absent in
    absurd (absent_drawn (g.S.Store.files c.args.store.now) c.args.range.path.now file there within.small
    (sym arm.field-0-is ∙ arm.ensures.reading honest))

pub returns-in-Ok-TooLong-clause-drawn : goal.returns-in-Ok-TooLong-clause-drawn
returns-in-Ok-TooLong-clause-drawn g c honest file there within =
    let arm = c.in-Ok-TooLong in
    absurd (long_drawn (g.S.Store.files c.args.store.now) c.args.range.path.now file there within.small
    (sym arm.field-0-is ∙ arm.ensures.reading honest))
