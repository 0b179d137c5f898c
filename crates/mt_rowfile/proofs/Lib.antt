pub mod Writing
pub mod Reading
pub mod Names
pub mod Counting
pub mod Examples
