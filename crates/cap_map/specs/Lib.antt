pub mod Mapped
pub mod Placing
pub mod Stores
