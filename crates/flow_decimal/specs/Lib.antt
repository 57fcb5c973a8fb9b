pub mod Numbers
pub mod Unsigned
pub mod Values
pub mod Order
pub mod Spelling
pub mod Bounds
pub mod Laws
