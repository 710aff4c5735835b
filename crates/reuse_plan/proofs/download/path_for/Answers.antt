use Rattle.std.proofs.Common.{◌≡◌, ◌≤◌, ◌∙◌, refl, sym, ap, subst, length, arith, option_copied}
use Rattle.reuse_change.specs.Files.{Files}
use Rattle.reuse_text.specs.declared.TheConstants.{LONGEST_FILE}
use Rattle.reuse_change.specs.Listing.{is_among}
use Rattle.reuse_plan.specs.Shown.{Shows}
use Rattle.reuse_plan.proofs.Downloading.{exists_answer, clash_answer, made_answer}
use Rattle.reuse_plan.proofs.download.path_for.Goals.{After-is_among}
use Rattle.reuse_plan.proofs.download.path_for.Goals as goal

module _ (c : After-is_among) (tree : Files) (are : Shows c.args.paths.now tree c.args.path) where
  among : c.is_among.result ≡ is_among c.args.paths.now c.args.path
  among = c.is_among.ensures are.ordered ∙ ap (is_among c.args.paths.now) c.as_bytes.ensures.bytes

  short : length c.in-Some.text.now ≤ LONGEST_FILE
  short = omega (arith, c.len.ensures, c.if-len-gt-LONGEST_FILE.false)

pub returns-then-is_among-clause-refused : goal.returns-then-is_among-clause-refused
returns-then-is_among-clause-refused c tree all here =
    let are = subst (Shows c.args.paths.now tree) (sym here) (all.each c.args.id.now) in
    let at = (goal.at.returns-then-is_among-clause-refused c).After-is_among in
    exists_answer tree c.args.id.now c.args.path c.in-Some.text.now c.args.paths.now (option_copied c.args.found) are
    here (ap option_copied c.in-Some.is) (short at tree are) (sym (among at tree are) ∙ c.if-is_among.true)

pub returns-then-branch-clause-refused : goal.returns-then-branch-clause-refused
returns-then-branch-clause-refused c tree all here =
    let are = subst (Shows c.args.paths.now tree) (sym here) (all.each c.args.id.now) in
    let at = (goal.at.returns-then-branch-clause-refused c).After-is_among in
    clash_answer tree c.args.id.now c.args.path c.in-Some.text.now c.args.paths.now (option_copied c.args.found) are
    here (ap option_copied c.in-Some.is) (short at tree are) (sym (among at tree are) ∙ c.if-is_among.false)
    (sym (c.in_ok-is_clash.ensures are.ordered) ∙ c.if-branch.true)

pub returns-clause-made : goal.returns-clause-made
returns-clause-made c tree all here =
    let are = subst (Shows c.args.paths.now tree) (sym here) (all.each c.args.id.now) in
    let at = (goal.at.returns-clause-made c).After-is_among in (
      refl,
      made_answer tree c.args.id.now c.args.path c.in-Some.text.now c.args.paths.now (option_copied c.args.found) are
          here (ap option_copied c.in-Some.is) (short at tree are) (sym (among at tree are) ∙ c.if-is_among.false)
          (sym (c.in_ok-is_clash.ensures are.ordered) ∙ c.if-branch.false),
    )
