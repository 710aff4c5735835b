use Rattle.std.proofs.Common.{rules}
use Rattle.reuse_folder.proofs.folder.RootFolder.go_to_handles.Goals as goal

pub invariant_of-self : goal.invariant_of-self
invariant_of-self g c = record { opened = search rules; home = λ honest. tt }
