pub mod Asking
pub mod OnlyReading
