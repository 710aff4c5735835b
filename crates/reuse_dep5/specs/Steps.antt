-- Words of the contracts of private functions: what a step of a match, of a reading or of a comparison
-- has found. No public clause cites them.
pub mod Parts
pub mod Names
pub mod Matching
pub mod Parsing
pub mod Members
