pub mod Tree
pub mod Queue
pub mod Candidates
pub mod Chosen
pub mod Making
