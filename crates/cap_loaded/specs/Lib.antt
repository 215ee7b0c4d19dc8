pub mod Images
pub mod Shown
