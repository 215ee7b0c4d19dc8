pub mod Spread
pub mod Records
pub mod File
pub mod Written
