-- Lemmas that several proofs share, by rooms.
pub mod run
