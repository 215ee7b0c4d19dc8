pub mod Readable
pub mod Words
pub mod Shown
