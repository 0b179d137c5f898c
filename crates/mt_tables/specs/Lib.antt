pub mod Commit
pub mod Pages
pub mod Plan
pub mod Rows
pub mod Tables
pub mod Unique
