use Rattle.std.proofs.Common.{◌∙◌, refl, sym, ap, subst}
use Rattle.reuse_session.specs.session.Requests.{IsAnswered}
use Rattle.reuse_command.specs.declared.reply.Refusal.{Refusal}
use Rattle.reuse_command.specs.declared.reply.Response.{Response}
use Rattle.reuse_command.specs.declared.reply.Response.TheVariants as responses
use Rattle.reuse_command.specs.declared.request.Request.{Request}
use Rattle.reuse_command.specs.declared.request.Request.TheVariants as requests
use Rattle.reuse_command.specs.declared.request.Steps.TheVariants as steps
use Rattle.reuse_journal.specs.Numbered.{all_numbers}
use Rattle.reuse_session.specs.session.Forgetting.{Forgets}
use Rattle.reuse_session.specs.session.Session.{memory_of}
use Rattle.reuse_session.proofs.lemmas.session.ForgetAnswers.{forget_answers, listed_at_stop}
use Rattle.reuse_session.proofs.lemmas.session.ForgottenSteps.{all_listed, numbers_of_all}
use Rattle.std.specs.Prelude.{Result}
use Rattle.reuse_session.proofs.lemmas.session.Answering.{answered_look, broken_alone, recover_fails, recover_leads}
use Rattle.reuse_session.proofs.lemmas.session.Answering.{fails_early, preview_fails, show_fails, log_fails, log_leads}
use Rattle.reuse_session.proofs.lemmas.session.Peeking.{log_reads_with_cause, show_reads_with_cause}
use Rattle.reuse_session.proofs.session.Session.answer.Goals as goal

pub returns-in-Make : goal.returns-in-Make
returns-in-Make g c = subst (λ (r : Request). IsAnswered g.S.Store r c.make.result c.args.self.now c.make.new.self)
    (sym c.in-Make.is) c.make.ensures

pub returns-in-Preview : goal.returns-in-Preview
returns-in-Preview g c =
    let store = g.S.Store in
    let call = c.in-Preview.call in
    let preview = c.preview_call.ensures in
    let old = c.args.self.now in
    let new = c.preview_call.new.self in
    subst (λ (r : Request). IsAnswered store r c.preview_answer.result old new) (sym c.in-Preview.is)
    (subst (λ (a : Result Response Refusal). IsAnswered store (requests.Preview call) a old new)
    (sym c.preview_answer.ensures)
    (answered_look store
    (requests.Preview call) tt responses.Preview c.preview_call.result old new preview.reads_only preview.broken
    (fails_early (requests.Preview call) (preview_fails call) c.preview_call.result preview.reads_only.unstopped)
    (λ honest held stands reported. (c.preview_call.result, refl, preview.exact honest held stands reported, refl))))

pub returns-in-All : goal.returns-in-All
returns-in-All g c =
    let store = g.S.Store in
    let all = c.forget_all.ensures in
    let old = c.args.self.now in
    let new = c.forget_all.new.self in
    subst (λ (r : Request). IsAnswered store r c.forgotten_answer.result old new)
    (sym (c.in-Forget.is ∙ ap (λ s. requests.Forget s) c.in-All.is))
    (subst (λ (a : Result Response Refusal). IsAnswered store (requests.Forget steps.All) a old new)
    (sym c.forgotten_answer.ensures)
    (forget_answers store steps.All (all_numbers (memory_of old)) c.forget_all.result old new
    (λ held stands. numbers_of_all (memory_of old) held.journal stands.remembers)
    (λ refusal is stop whole. all_listed (memory_of old))
    all.broken all.stays all.refusal all.exact all.survives all.call all.leaves))

pub returns-in-Numbers : goal.returns-in-Numbers
returns-in-Numbers g c =
    let store = g.S.Store in
    let forget = c.forget.ensures in
    let old = c.args.self.now in
    let new = c.forget.new.self in
    let numbers = c.in-Numbers.numbers in
    let given = c.as_slice.result.now in
    let answer = c.forgotten_answer-in-Numbers in
    subst (λ (r : Request). IsAnswered store r answer.result old new)
    (sym (c.in-Forget.is ∙ ap (λ s. requests.Forget s) c.in-Numbers.is))
    (subst (λ (a : Result Response Refusal). IsAnswered store (requests.Forget (steps.Numbers numbers)) a old new)
    (sym answer.ensures)
    (forget_answers store (steps.Numbers numbers) given c.forget.result old new
    (λ held stands. c.as_slice.ensures) (listed_at_stop old given c.forget.result forget.absent)
    forget.broken forget.stays forget.refusal
    (λ honest held stands reported. let e = forget.exact honest held stands reported in
    (e.0, e.1, subst (λ ns. Forgets ns held c.forget.result e.0) c.as_slice.ensures e.2))
    forget.survives forget.call forget.leaves))

pub returns-in-Recover : goal.returns-in-Recover
returns-in-Recover g c =
    let store = g.S.Store in
    let recovered = c.recovered.ensures in
    let session = c.args.self.now in
    let skip_moved = c.in-Recover.skip_moved in
    subst (λ (r : Request). IsAnswered store r c.recovered_answer.result session session) (sym c.in-Recover.is)
    (subst (λ (a : Result Response Refusal). IsAnswered store (requests.Recover skip_moved) a session session)
    (sym c.recovered_answer.ensures)
    (answered_look store (requests.Recover skip_moved) tt responses.Recovered c.recovered.result session session
    (log_reads_with_cause store c.recovered.result session (broken_alone c.recovered.result recovered.refusal))
    recovered.broken (recover_fails skip_moved c.recovered.result recovered.refusal)
    (λ honest held stands reported. recover_leads store.files session held skip_moved c.recovered.result stands
    recovered.broken.0 recovered.nothing recovered.refusal)))

pub returns-in-Log : goal.returns-in-Log
returns-in-Log g c =
    let store = g.S.Store in
    let log = c.log.ensures in
    let session = c.args.self.now in
    subst (λ (r : Request). IsAnswered store r c.log_answer.result session session) (sym c.in-Log.is)
    (subst (λ (a : Result Response Refusal). IsAnswered store requests.Log a session session) (sym c.log_answer.ensures)
    (answered_look store requests.Log tt responses.Log c.log.result session session
    (log_reads_with_cause store c.log.result session log.refusal) log.broken (log_fails c.log.result log.refusal)
    (λ honest held stands reported. log_leads store.files session held c.log.result stands log.broken.0
    (log.exact held stands) log.refusal reported)))

pub returns-in-Show : goal.returns-in-Show
returns-in-Show g c =
    let store = g.S.Store in
    let number = c.in-Show.number in
    let show = c.show.ensures in
    let old = c.args.self.now in
    let new = c.show.new.self in
    let reads_with_cause =
    show_reads_with_cause store c.show.result old new show.broken.1 show.reads show.kept show.fails show.call in
    subst (λ (r : Request). IsAnswered store r c.shown_answer.result old new) (sym c.in-Show.is)
    (subst (λ (a : Result Response Refusal). IsAnswered store (requests.Show number) a old new)
    (sym c.shown_answer.ensures)
    (answered_look store (requests.Show number) tt responses.Shown c.show.result old new reads_with_cause show.broken
    (fails_early (requests.Show number) (show_fails number) c.show.result reads_with_cause.unstopped)
    (λ honest held stands reported. (c.show.result, refl, show.exact honest held stands reported, refl))))
