pub mod RunLemmas
pub mod AllLemmas
pub mod Rows
