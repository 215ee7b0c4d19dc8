pub mod Inputs
pub mod Linked
pub mod View
pub mod Laws
pub mod Counts
pub mod Content
