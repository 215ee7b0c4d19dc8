pub mod Adopted
pub mod Lengths
