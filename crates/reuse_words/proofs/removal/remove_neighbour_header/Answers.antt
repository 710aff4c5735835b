use Rattle.std.proofs.Common.{◌∙◌, ap, sym}
use Rattle.std.specs.Prelude.{Ok}
use Rattle.reuse_words.specs.declared.removal.NeighbourChange.{NeighbourChange}
use Rattle.reuse_words.specs.Removal.{neighbour_untagged_of}
use Rattle.reuse_words.proofs.RemovalLemmas.{change_ok, change_err}
use Rattle.reuse_words.proofs.removal.remove_neighbour_header.Goals as goal

pub returns-in-Ok : goal.returns-in-Ok
returns-in-Ok c =
    change_ok c.args.file.now (neighbour_untagged_of c.args.file.now) c.in-Ok.splice c.in-Ok.ensures
    ∙ ap (λ (change : NeighbourChange). Ok change) (sym c.neighbour_change_of.ensures)

pub returns-in-Err : goal.returns-in-Err
returns-in-Err c = change_err c.args.file.now (neighbour_untagged_of c.args.file.now) c.in-Err.refusal c.in-Err.ensures
