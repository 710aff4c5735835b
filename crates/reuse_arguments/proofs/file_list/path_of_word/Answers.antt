use Rattle.std.proofs.Common.{Some, ap, ◌∙◌}
use Rattle.std.specs.Option.{option_map}
use Rattle.reuse_arguments.proofs.FileListLemmas.{named, unnamed}
use Rattle.reuse_arguments.proofs.file_list.path_of_word.Goals as goal

pub returns-in-Some-Path : goal.returns-in-Some-Path
returns-in-Some-Path c =
    named (option_map (λ text. text.now) c.args.folder) c.args.word.now c.in-Ok.word.now c.in_ok-path-in-Ok.field-0 c.in-Some-Path.path c.in-Ok.ensures.cases.1
    c.in-Ok.ensures.cases.0 c.in_ok-path-in-Ok.ensures
    (c.in-Some-Path.is ∙ ap (λ place. Some place) c.in-Some-Path.field-0-is)

pub returns-in-Err : goal.returns-in-Err
returns-in-Err c = unnamed (option_map (λ text. text.now) c.args.folder) c.args.word.now c.in-Err.ensures.cases.0
