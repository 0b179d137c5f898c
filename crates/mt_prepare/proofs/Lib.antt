pub mod Accepted
pub mod Copied
pub mod Grown
pub mod Preparing
pub mod Tenants
