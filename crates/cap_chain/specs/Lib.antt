pub mod Words
pub mod Adopted
pub mod Marking
pub mod Counted
pub mod Laws
