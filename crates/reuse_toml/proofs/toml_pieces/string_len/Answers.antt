use Rattle.std.proofs.Common.{◌≤◌, length, get_or, refl, rules}
use Rattle.reuse_toml.proofs.TomlLemmas.{string_len-more, string_len-stop, string_len-end}
use Rattle.reuse_toml.proofs.toml_pieces.string_len.Goals as goal

pub returns-in-None-clause-count : goal.returns-in-None-clause-count
returns-in-None-clause-count c =
    string_len-stop c.args.quote c.args.need c.loop-i.state c.args.text.now c.loop-i.i _ 0
    (get_or c.args.text.now c.loop-i.i 0) c.loop-i-test.true refl c.in-None.ensures c.loop-i.invariant

pub loop-i-preserved : goal.loop-i-preserved
loop-i-preserved c =
    string_len-more c.args.quote c.args.need c.loop-i.state c.args.text.now c.loop-i.i _ 0
    (get_or c.args.text.now c.loop-i.i 0) c.in-Some.next c.loop-i-test.true refl c.in-Some.ensures c.loop-i.invariant

pub returns-clause-count : goal.returns-clause-count
returns-clause-count c =
    let low : c.loop-i.i ≤ length c.args.text.now = search rules in
    string_len-end c.args.quote c.args.need c.loop-i.state c.args.text.now c.loop-i.i _ c.loop-i-test.false low
    c.loop-i.invariant
