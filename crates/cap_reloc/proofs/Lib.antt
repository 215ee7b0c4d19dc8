pub mod Holding
pub mod Hulling
pub mod Touching
pub mod Taking
pub mod Mappings
pub mod Within
pub mod Planning
pub mod Saying
pub mod Holdings
pub mod Unfit
pub mod Defined
pub mod Contents
pub mod SoundPlan
pub mod Pages
pub mod FromPlan
mod Overlaid
mod StoredPairs
mod StoredWords
mod StoredLaws
pub mod NarrowedWords
pub mod NotedWords
mod SoundStored
pub mod Meant
pub mod Shown
