pub mod Keys
pub mod Maps
pub mod Examples
pub mod Counted
