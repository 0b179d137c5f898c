mod Examples
pub mod Extensions
pub mod Members
mod Printed
mod Sorts
pub mod Taken
mod Uses
pub mod Ascending
pub mod Cheapest
pub mod CoverExamples
pub mod Determined
pub mod Filled
pub mod Lists
pub mod Thinned
