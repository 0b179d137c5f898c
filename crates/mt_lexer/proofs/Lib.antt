pub mod Runs
mod Classes
pub mod Quotes
pub mod Signs
pub mod Reading
pub mod Tiling
pub mod Determined
pub mod Examples
pub mod Decided
pub mod LowerWords
mod ReservedWords
