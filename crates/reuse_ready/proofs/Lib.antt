pub mod ListLemmas
pub mod ReadyLemmas
pub mod RowLemmas
pub mod CountedLemmas
pub mod OwnLemmas
