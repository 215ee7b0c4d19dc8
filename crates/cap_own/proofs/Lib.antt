pub mod Granting
pub mod Multiples
