use Rattle.std.proofs.Common.{ap, ◌∙◌, sym, Option}
use Rattle.std.specs.Option.{option_map}
use Rattle.reuse_header.specs.declared.finder.Block.{Block}
use Rattle.reuse_header.specs.Found.{block_view}
use Rattle.reuse_header.specs.Annotation.{edit_of}
use Rattle.reuse_header.proofs.place.file_place.Goals as goal

pub returns-in-None-clause-edit : goal.returns-in-None-clause-edit
returns-in-None-clause-edit c text =
    c.place_behind_prefix.ensures.edit text
    ∙ ap (λ (old : Option Block). edit_of c.args.style.now c.args.file.now (option_map block_view old) text)
    (sym c.in-None.is)
