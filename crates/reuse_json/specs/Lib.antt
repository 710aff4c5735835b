pub mod EntryText
pub mod EntryReading
pub mod Json
pub mod JsonReading
pub mod Trimmed
pub mod Format
pub mod Decoded
