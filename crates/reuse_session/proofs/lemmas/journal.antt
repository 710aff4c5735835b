-- Lemmas of the journal and of its steps.
pub mod InTurn
pub mod SealLemmas
pub mod StepAnswers
pub mod StepDoubt
pub mod Stepping
