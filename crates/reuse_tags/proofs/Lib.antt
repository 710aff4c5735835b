pub mod EndLemmas
pub mod EverywhereLemmas
pub mod PlaceLemmas
pub mod LawLemmas
pub mod LeftLemmas
