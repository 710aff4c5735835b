use Rattle.std.proofs.Common.{nat_cmp, sym, subst}
use Rattle.std.specs.Cmp.Lexicographic.{slice_cmp}
use Rattle.std.specs.FinMap.{from_entries}
use Rattle.reuse_change.specs.Files.{AreFiles}
use Rattle.reuse_store.specs.FileMap.{none_are_files}
use Rattle.reuse_store.proofs.file_map.FileMap.new.Goals as goal

pub invariant_of-result : goal.invariant_of-result
invariant_of-result c = record {
  are_files = subst (λ es. AreFiles (from_entries {R = slice_cmp nat_cmp} es)) (sym c.new.ensures.empty) none_are_files;
}
