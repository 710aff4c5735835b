pub mod DateLemmas
pub mod JoinedLemmas
