use Rattle.reuse_store.proofs.GoodFiles.{puts_keep, remove_keeps}
use Rattle.reuse_store.specs.FileMap.{none_are_files}
use Rattle.reuse_store.proofs.laws.files_stay_good.Goals as goal

pub returns : goal.returns
returns c = record { none = none_are_files; put = puts_keep; remove = remove_keeps }
