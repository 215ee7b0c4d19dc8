pub mod Metadata
pub mod Bounds
pub mod Decoding
pub mod Exact
pub mod Encoding
pub mod Computed
pub mod Laws
