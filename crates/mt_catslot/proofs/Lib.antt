pub mod Numbers
pub mod Reading
pub mod Said
pub mod Whole
pub mod Written
