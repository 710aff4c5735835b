use Rattle.std.proofs.Common.{inl, refl}
use Rattle.reuse_store.proofs.AskedLemmas.{reads_none}
use Rattle.reuse_undo.proofs.run.locked.found_after.Goals as goal

pub returns-in_default : goal.returns-in_default
returns-in_default g c = (c.args.folder, (reads_none _ _, refl), inl refl)
