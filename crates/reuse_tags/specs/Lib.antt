pub mod Ends
pub mod Reading
pub mod Ignored
pub mod Left
pub mod Around
pub mod Everywhere
pub mod Placed
