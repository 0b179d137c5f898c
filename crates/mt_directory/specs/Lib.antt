pub mod Directory
pub mod Known
