pub mod run
