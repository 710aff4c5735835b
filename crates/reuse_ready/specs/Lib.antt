pub mod Additions
pub mod Refused
pub mod Ready
pub mod Tally
pub mod Counted
pub mod Needed
