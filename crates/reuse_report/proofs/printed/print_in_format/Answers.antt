use Rattle.std.proofs.Common.{OnOk, sym, subst}
use Rattle.std.proofs.lemmas.Result.{on_ok_weaker}
use Rattle.std.specs.Io.KnownBytes.{Appends}
use Rattle.reuse_shown.specs.JoinedTexts.{AppendsSome}
use Rattle.reuse_report.specs.Responses.{IsTextIn}
use Rattle.reuse_report.proofs.ResponseLemmas.{AppendsSome-behind, AppendsSome-diff}
use Rattle.reuse_report.proofs.printed.print_in_format.Goals as goal

pub returns-in_ok-print_response-in-Diff-clause-text : goal.returns-in_ok-print_response-in-Diff-clause-text
returns-in_ok-print_response-in-Diff-clause-text g c may =
    let contents = g.W.Write.contents in
    let mid = contents c.print_response-in-Diff.new.out in
    let new = contents c.write_all.new.self in
    subst (λ f. OnOk c.write_all.result (AppendsSome (contents c.args.out.now) (contents c.write_all.new.self)
    (IsTextIn f c.args.options.names c.args.response.now))) (sym c.in-Diff.is)
    (on_ok_weaker c.write_all.result
    (λ (wrote : Appends mid new c.args.diff.now). AppendsSome-diff c.args.options.names c.args.response.now
    c.args.diff.now (contents c.args.out.now) mid new (may c.in-Diff.is) c.in_ok-print_response-in-Diff.ensures wrote)
    c.write_all.ensures.bytes)

pub returns-in_ok-print_response-in-Diff-clause-behind : goal.returns-in_ok-print_response-in-Diff-clause-behind
returns-in_ok-print_response-in-Diff-clause-behind g c is =
    let contents = g.W.Write.contents in
    let mid = contents c.print_response-in-Diff.new.out in
    let new = contents c.write_all.new.self in
    on_ok_weaker c.write_all.result
    (λ (wrote : Appends mid new c.args.diff.now). AppendsSome-behind c.args.options.names c.args.response.now
    c.args.diff.now (contents c.args.out.now) mid new c.in_ok-print_response-in-Diff.ensures wrote)
    c.write_all.ensures.bytes
