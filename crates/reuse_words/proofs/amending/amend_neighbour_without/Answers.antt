use Rattle.std.proofs.Common.{◌∙◌, ap, sym}
use Rattle.std.specs.Prelude.{Ok}
use Rattle.reuse_words.specs.declared.removal.NeighbourChange.{NeighbourChange}
use Rattle.reuse_words.specs.Amended.{neighbour_without_texts_of}
use Rattle.reuse_words.proofs.RemovalLemmas.{change_ok, change_err}
use Rattle.reuse_words.proofs.amending.amend_neighbour_without.Goals as goal

pub returns-in-Ok : goal.returns-in-Ok
returns-in-Ok c =
    change_ok c.args.file.now (neighbour_without_texts_of c.args.texts.now c.args.file.now) c.in-Ok.splice
    c.in-Ok.ensures ∙ ap (λ (change : NeighbourChange). Ok change) (sym c.neighbour_change_of.ensures)

pub returns-in-Err : goal.returns-in-Err
returns-in-Err c =
    change_err c.args.file.now (neighbour_without_texts_of c.args.texts.now c.args.file.now) c.in-Err.refusal
    c.in-Err.ensures
