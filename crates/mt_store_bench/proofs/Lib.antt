pub mod Suited
