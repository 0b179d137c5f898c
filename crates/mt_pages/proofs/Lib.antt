pub mod Loaded
pub mod Made
pub mod Planned
pub mod Said
