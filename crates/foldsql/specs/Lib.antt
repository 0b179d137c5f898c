pub mod Moments
pub mod Serves
pub mod Status
pub mod Tenants
pub mod Turns
