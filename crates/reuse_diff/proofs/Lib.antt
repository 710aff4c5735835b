pub mod CommonLines
pub mod DiffTextLemmas
pub mod EndLemmas
pub mod LineLists
pub mod PieceLemmas
