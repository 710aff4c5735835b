use Rattle.std.proofs.Common.{◌≤◌, ◌∙◌, [], ◌∷◌, length, sym, ap, ap₂, subst, Ok, Err}
use Rattle.reuse_dep5.specs.Answers as answers
use Rattle.reuse_dep5.specs.Conversion.{converted}
use Rattle.reuse_text.specs.declared.TheConstants.{LONGEST_FILE}
use Rattle.reuse_change.specs.Change.{sealed_drop, sealed_make}
use Rattle.reuse_change.specs.Clash.{is_clash_of}
use Rattle.reuse_change.specs.Listing.{is_among}
use Rattle.reuse_plan.specs.Conversion.{conversion_edits}
use Rattle.reuse_edit.specs.Answered.{IsRefusalOf, MakesEdits}
use Rattle.reuse_command.specs.declared.reply.Refusal.TheVariants as refusals
use Rattle.reuse_plan.proofs.Converting.{exists_answer, dep5_answer, clash_answer, made_answer}
use Rattle.reuse_plan.proofs.convert.replacement.Goals as goal

pub returns-then-is_among-clause-edits : goal.returns-then-is_among-clause-edits
returns-then-is_among-clause-edits c tree are here found short =
    exists_answer tree c.args.paths.now c.args.bytes are found short
    (sym (c.is_among.ensures are.ordered
    ∙ ap (is_among c.args.paths.now) (c.as_bytes.ensures.bytes ∙ c.in_ok-toml.ensures)) ∙ c.if-is_among.true)
    ∙ ap (λ p. Err (refusals.Exists p)) (sym c.in_ok-toml.ensures)

pub returns-in-Err-clause-edits : goal.returns-in-Err-clause-edits
returns-in-Err-clause-edits c tree are here found short =
    subst (IsRefusalOf (conversion_edits tree)) (sym c.of_dep5.ensures)
    (dep5_answer tree c.args.paths.now c.args.bytes are found short
    (sym (c.is_among.ensures are.ordered
    ∙ ap (is_among c.args.paths.now) (c.as_bytes.ensures.bytes ∙ c.in_ok-toml.ensures)) ∙ c.if-is_among.false)
    c.in-Err.refusal
    (subst (λ b. answers.IsRefusalOf c.in-Err.refusal (converted b)) c.as_slice.ensures c.in-Err.ensures.answer))

pub returns-then-branch-clause-edits : goal.returns-then-branch-clause-edits
returns-then-branch-clause-edits c tree are here found short =
    let there = c.in_ok-toml.ensures in
    clash_answer tree c.args.paths.now c.args.bytes are found short _
    (ap converted (sym c.as_slice.ensures) ∙ c.in-Ok.ensures.answer)
    (sym (c.is_among.ensures are.ordered ∙ ap (is_among c.args.paths.now) (c.as_bytes.ensures.bytes ∙ there))
    ∙ c.if-is_among.false)
    (ap (is_clash_of c.args.paths.now) (sym there) ∙ sym (c.in_ok-is_clash-in-Ok.ensures are.ordered)
    ∙ c.if-branch.true)
    ∙ ap (λ p. Err (refusals.Clash p)) (sym there)

pub returns-in_ok-both_changes-in-Ok-clause-edits : goal.returns-in_ok-both_changes-in-Ok-clause-edits
returns-in_ok-both_changes-in-Ok-clause-edits c tree are here found short =
    let there = c.in_ok-toml.ensures in
    subst (MakesEdits tree (conversion_edits tree)) (sym (c.in_ok-both_changes-in-Ok.ensures
    ∙ ap₂ (λ p q. sealed_drop p c.args.bytes ∷ sealed_make q c.from_vec-text.result ∷ []) here there))
    (made_answer tree c.args.paths.now c.args.bytes are found short c.from_vec-text.result
    (ap converted (sym c.as_slice.ensures) ∙ c.in-Ok.ensures.answer ∙ ap (λ t. Ok t) (sym c.from_vec-text.ensures))
    (sym (c.is_among.ensures are.ordered ∙ ap (is_among c.args.paths.now) (c.as_bytes.ensures.bytes ∙ there))
    ∙ c.if-is_among.false)
    (ap (is_clash_of c.args.paths.now) (sym there) ∙ sym (c.in_ok-is_clash-in-Ok.ensures are.ordered)
    ∙ c.if-branch.false)
    (subst (λ t. length t ≤ LONGEST_FILE) (sym c.from_vec-text.ensures) c.in-Ok.ensures.fits))
