pub mod Distinct
pub mod Occurrences
pub mod Decisions
pub mod Resolved
pub mod Tally
pub mod IsResolved
pub mod Output
pub mod ResolveLaws
