pub mod LineLemmas
pub mod ObjectLemmas
pub mod OutputLemmas
pub mod RowLemmas
