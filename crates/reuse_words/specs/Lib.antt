pub mod Words
pub mod Runs
pub mod Texts
pub mod Information
pub mod Removal
pub mod Amended
pub mod Added
pub mod FileLaws
