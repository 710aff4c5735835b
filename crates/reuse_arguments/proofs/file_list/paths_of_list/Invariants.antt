use Rattle.std.proofs.Common.{◌≡◌, ℕ, List, map, Bor}
use Rattle.std.specs.Prelude.{filter_map}
use Rattle.std.specs.Option.{option_map}
use Rattle.reuse_arguments.specs.FileLists.{path_listed, separator_of}
use Rattle.reuse_arguments.proofs.file_list.paths_of_list.Given as goal

abbrev pub invariant-loop-word : goal.invariant-loop-word
invariant-loop-word l =
    l.paths.items ≡ filter_map (path_listed (option_map (λ text. text.now) l.folder) (separator_of l.list)) (map (λ (word : Bor (List ℕ)). word.now) l.yielded)
