use Rattle.std.proofs.Common.{◌≡◌, length}
use Rattle.reuse_print.proofs.OutputLemmas.{Written}
use Rattle.reuse_print.proofs.output.write_text.Given as goal

-- the sink was given the text up to what is left, and hasn't failed meanwhile
abbrev pub invariant-parts : goal.invariant-parts
invariant-parts g l = record {
  written : Written (g.O.Sink.contents l.initial.out) (g.O.Sink.contents l.out) l.text l.rest;
  kept : g.O.Sink.failed l.out ≡ g.O.Sink.failed l.initial.out;
}

abbrev pub decreases-parts : goal.decreases-parts
decreases-parts g l = length l.rest
