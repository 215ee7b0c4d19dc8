pub mod NameLemmas
pub mod Noted
pub mod Loops
pub mod Tallies
pub mod Passes
pub mod Firsts
pub mod Tallied
pub mod TableLemmas
pub mod Offers
pub mod ResolveLaw
pub mod ResolvedLaw
mod Rows
