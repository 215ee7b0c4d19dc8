pub mod CountLemmas
pub mod FirstLemmas
pub mod LastLemmas
pub mod MarkLemmas
pub mod SoundLemmas
pub mod BuildLemmas
mod WorkedTables
