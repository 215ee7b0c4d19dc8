pub mod Forms
pub mod Values
pub mod Patched
pub mod Steps
pub mod Partners
