use Rattle.std.proofs.Common.{◌≡◌}
use Rattle.std.specs.List.{All}
use Rattle.reuse_system.specs.TempFiles.{place_of, IsNewIn}
use Rattle.reuse_system.specs.NameChanges.{OnlyChanges}
use Rattle.reuse_system.specs.SystemLaws.{IsAlikeUnless}
use Rattle.reuse_system.specs.declared.place.Identity.{Identity}
use Rattle.reuse_folder.specs.Seen.{IsNewFile}
use Rattle.reuse_folder.proofs.folder.batch.remove_all.Given as goal

abbrev pub invariant-loop-one : goal.invariant-loop-one
invariant-loop-one g l =
    let s = g.S.System in
    (s.folders l.system ≡ s.folders l.fn.system) × (s.honest l.system → s.honest l.fn.system) ×
    (All (λ one. IsNewFile (place_of one.temp_file)) l.temp_files
    → OnlyChanges IsNewFile (s.changes l.fn.system) (s.changes l.system)) ×
    ((new_files : Identity) → All (λ one. IsNewIn new_files (place_of one.temp_file)) l.temp_files
    → IsAlikeUnless (IsNewIn new_files) (s.holds l.fn.system) (s.holds l.system))
