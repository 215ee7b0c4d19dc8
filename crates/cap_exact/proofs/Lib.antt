pub mod Standing
pub mod Apart
pub mod Bounds
pub mod Linked
pub mod Kept
