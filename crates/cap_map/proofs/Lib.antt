pub mod Pages
pub mod Bytes
pub mod Objects
