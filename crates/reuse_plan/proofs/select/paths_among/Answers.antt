use Rattle.std.proofs.Common.{◌++◌, ◌∙◌, ap, option_to_list}
use Rattle.reuse_command.specs.Command.{path_in}
use Rattle.reuse_plan.proofs.Annotating.{one_more}
use Rattle.reuse_plan.proofs.select.paths_among.Goals as goal

pub loop-place-preserved : goal.loop-place-preserved
loop-place-preserved c =
    one_more path_in c.args.places.now c.loop-place.place-index c.place-item.result c.loop-place.paths.items
    c.push_path.new.paths.items c.loop-place-test.true c.loop-place.invariant
    (c.in_ok-push_path.ensures ∙ ap (λ p. c.loop-place.paths.items ++ option_to_list (path_in p)) c.place-item.is)
