pub mod DiffLemmas
pub mod DrawnLemmas
pub mod ResponseLemmas
pub mod TextLemmas
