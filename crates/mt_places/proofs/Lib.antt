pub mod Asked
pub mod Begun
pub mod Bodies
pub mod Listed
pub mod Looks
pub mod Mapped
pub mod Pages
pub mod Stays
