pub mod LockCall
pub mod Locks
