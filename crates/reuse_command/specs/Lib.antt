pub mod Answer
pub mod Cause
pub mod Choice
pub mod Command
pub mod Covered
pub mod Reading
pub mod RefusalTexts
pub mod Refused
