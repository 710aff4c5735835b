use Rattle.std.proofs.Common.{◌≡◌, ◌++◌, take, map, flat_map}
use Rattle.reuse_dep5.specs.ReuseTable.{annotation_of, annotation_text}
use Rattle.reuse_dep5.proofs.table_text.push_annotations.Given as goal

abbrev pub invariant-loop-paragraph : goal.invariant-loop-paragraph
invariant-loop-paragraph l =
    l.out.items ≡ l.fn.out.items ++ flat_map annotation_text (map annotation_of (take l.paragraph-index l.files))
