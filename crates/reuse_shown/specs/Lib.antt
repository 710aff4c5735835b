pub mod Dates
pub mod JoinedTexts
pub mod ShownNames
