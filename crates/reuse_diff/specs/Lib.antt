pub mod DiffText
pub mod Hunks
pub mod TextLines
