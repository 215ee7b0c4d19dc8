pub mod Post
pub mod Calls
pub mod Listing
pub mod Walking
pub mod Laws
