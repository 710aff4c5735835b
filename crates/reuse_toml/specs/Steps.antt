-- Words of the contracts of private functions: what a step of a match has found. No public clause
-- cites them.
pub mod GlobMatching
