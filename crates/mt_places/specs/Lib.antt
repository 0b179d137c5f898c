pub mod Held
pub mod Named
pub mod Places
pub mod Walked
