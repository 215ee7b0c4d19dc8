pub mod Fields
pub mod Sums
pub mod PlanSteps
pub mod Together
pub mod Firsts
pub mod Stubs
pub mod Lengths
