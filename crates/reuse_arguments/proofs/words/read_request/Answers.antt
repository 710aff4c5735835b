use Rattle.std.proofs.Common.{◌∙◌, Ok, ap, sym}
use Rattle.reuse_arguments.proofs.CommandLineLemmas.{made_of, request_else}
use Rattle.reuse_arguments.proofs.LineFaultLemmas.{expected_after, mistake_first, mistake_same, read_on}
use Rattle.reuse_arguments.specs.CommandLine.{request_read}
use Rattle.reuse_arguments.specs.Found.{found_in}
use Rattle.reuse_arguments.proofs.words.read_request.Goals as goal
use Rattle.reuse_command.specs.declared.request.Request.TheVariants.{Recover}

pub returns-in_err-call-in_default : goal.returns-in_err-call-in_default
returns-in_err-call-in_default c =
    expected_after _ _ _ _ c.from_residual-in_err-call-in_default.ensures.1
    (mistake_same _ _ _ (request_else _ _ _ _
    c.in_default.not-log c.in_default.not-show c.in_default.not-forget c.in_default.not-recover
    c.in_default.not-styles)
    (mistake_first _ _ _ c.in_err-call-in_default.ensures))

pub returns-in-log : goal.returns-in-log
unfolding request_read
returns-in-log c = ap (λ name. request_read name (found_in c.args.matches.now) c.args.moment c.args.context.now) c.in-log.is

pub returns-in_err-read_step-in-show : goal.returns-in_err-read_step-in-show
unfolding request_read
returns-in_err-read_step-in-show c =
    expected_after _ _ _ _ c.from_residual.ensures.1
    (mistake_same _ _ _
    (ap (λ name. request_read name (found_in c.args.matches.now) c.args.moment c.args.context.now) c.in-show.is)
    (mistake_first _ _ _ c.in_err-read_step-in-show.ensures))

pub returns-in_ok-read_step-in-show : goal.returns-in_ok-read_step-in-show
unfolding request_read
returns-in_ok-read_step-in-show c =
    ap (λ name. request_read name (found_in c.args.matches.now) c.args.moment c.args.context.now) c.in-show.is
    ∙ read_on _ _ _ c.in_ok-read_step-in-show.ensures

pub returns-in_err-read_steps-in-forget : goal.returns-in_err-read_steps-in-forget
unfolding request_read
returns-in_err-read_steps-in-forget c =
    expected_after _ _ _ _ c.from_residual-in_err-read_steps-in-forget.ensures.1
    (mistake_same _ _ _
    (ap (λ name. request_read name (found_in c.args.matches.now) c.args.moment c.args.context.now) c.in-forget.is)
    (mistake_first _ _ _ c.in_err-read_steps-in-forget.ensures))

pub returns-in_ok-read_steps-in-forget : goal.returns-in_ok-read_steps-in-forget
unfolding request_read
returns-in_ok-read_steps-in-forget c =
    ap (λ name. request_read name (found_in c.args.matches.now) c.args.moment c.args.context.now) c.in-forget.is
    ∙ read_on _ _ _ c.in_ok-read_steps-in-forget.ensures

pub returns-in-recover : goal.returns-in-recover
unfolding request_read
returns-in-recover c =
    ap (λ name. request_read name (found_in c.args.matches.now) c.args.moment c.args.context.now) c.in-recover.is
    ∙ ap (λ skip_moved. Ok (Recover skip_moved)) (sym c.flag.ensures)

pub returns-in_ok-call-in_default : goal.returns-in_ok-call-in_default
returns-in_ok-call-in_default c =
    request_else _ _ _ _ c.in_default.not-log c.in_default.not-show c.in_default.not-forget c.in_default.not-recover
    c.in_default.not-styles
    ∙ read_on _ _ _ c.in_ok-call-in_default.ensures
    ∙ ap (λ request. Ok request) (made_of _ _ _ _ _ c.is_dry_run.ensures c.made_or_seen.ensures)

pub returns-in_err-annotation-in-styles : goal.returns-in_err-annotation-in-styles
unfolding request_read
returns-in_err-annotation-in-styles c =
    expected_after _ _ _ _ c.from_residual-in_err-annotation-in-styles.ensures.1
    (mistake_same _ _ _
    (ap (λ name. request_read name (found_in c.args.matches.now) c.args.moment c.args.context.now) c.in-styles.is)
    (mistake_first _ _ _ c.in_err-annotation-in-styles.ensures))

pub returns-in_ok-annotation-in-styles : goal.returns-in_ok-annotation-in-styles
unfolding request_read
returns-in_ok-annotation-in-styles c =
    ap (λ name. request_read name (found_in c.args.matches.now) c.args.moment c.args.context.now) c.in-styles.is
    ∙ read_on _ _ _ c.in_ok-annotation-in-styles.ensures
