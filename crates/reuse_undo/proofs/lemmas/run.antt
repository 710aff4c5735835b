-- Lemmas of what a line asks for.
pub mod AfterStopLemmas
pub mod CallLemmas
pub mod CarriedInside
pub mod DrawnLines
pub mod FoundInside
pub mod LossesInTurn
pub mod OneCallLemmas
pub mod PathsFoundLemmas
pub mod PreviewedLemmas
pub mod ModelLemmas
pub mod RecoveryLemmas
pub mod SafeCalls
pub mod TreeDiffLemmas
