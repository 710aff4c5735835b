-- Lemmas that several proofs share, by rooms.
pub mod journal
pub mod session
