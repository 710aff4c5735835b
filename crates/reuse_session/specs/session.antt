-- What the calls of a session answer and leave.
pub mod Calls
pub mod SessionSlot
pub mod Forgetting
pub mod Found
pub mod Fresh
pub mod Machine
pub mod Model
pub mod Previews
pub mod Requests
pub mod RevertCalls
pub mod Session
pub mod Showing
pub mod Stops
pub mod Openings
pub mod PathLosses
pub mod SafeCalls
