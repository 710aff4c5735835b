pub mod Drawn
pub mod Endings
pub mod RefusalTexts
pub mod Responses
pub mod Statuses
pub mod Texts
pub mod WriterFaults
