pub mod Content
pub mod Applied
pub mod Keys
pub mod Listed
pub mod Phys
