pub mod Numbers
pub mod Names
pub mod Choices
pub mod Symbols
pub mod Records
pub mod Sections
pub mod Objects
