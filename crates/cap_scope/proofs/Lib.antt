pub mod Growing
pub mod Tables
pub mod Exported
pub mod Candidates
pub mod Choices
