pub mod Copies
pub mod Prepared
