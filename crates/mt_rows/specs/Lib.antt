pub mod Assembled
pub mod Changes
pub mod Rules
pub mod Series
