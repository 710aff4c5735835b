-- What a line asks a session for, and what comes of it.
pub mod AfterStops
pub mod Called
pub mod RunResult
pub mod DryRuns
pub mod FoundNames
pub mod LineRuns
pub mod LinesInTurn
pub mod OneCall
pub mod PathsFound
pub mod Recoveries
pub mod RunLine
