use Rattle.std.proofs.Common.{◌≡◌, ◌++◌, length}
use Rattle.std.specs.List.{filter_map}
use Rattle.std.specs.Vec.Iter.{into_iter_items, into_iter_len}
use Rattle.reuse_print.specs.FoundNames.{refusal_for_all, listed_paths}
use Rattle.reuse_print.proofs.found_names.listed_paths.Given as goal

-- of the outcomes so far none is refused for all, and the paths are those that are listed
abbrev pub invariant-loop-path_outcome : goal.invariant-loop-path_outcome
invariant-loop-path_outcome l =
    (filter_map refusal_for_all (into_iter_items l.path_outcome-iterator)
    ≡ filter_map refusal_for_all (into_iter_items l.initial.path_outcome-iterator))
    × (l.paths.items ++ listed_paths (into_iter_items l.path_outcome-iterator)
    ≡ listed_paths (into_iter_items l.initial.path_outcome-iterator))
    × (into_iter_len l.path_outcome-iterator ≡ length (into_iter_items l.path_outcome-iterator))
