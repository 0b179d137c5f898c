pub mod Entries
pub mod Generations
pub mod Made
pub mod Tenancies
pub mod Whole
