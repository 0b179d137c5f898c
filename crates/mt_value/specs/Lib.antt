pub mod Insertion
pub mod Laws
pub mod Logic
pub mod Order
pub mod Printed
pub mod Sorted
