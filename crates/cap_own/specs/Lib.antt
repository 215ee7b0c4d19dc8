pub mod Interval
pub mod Carving
pub mod Cap
pub mod Narrowing
pub mod Grants
pub mod Laws
