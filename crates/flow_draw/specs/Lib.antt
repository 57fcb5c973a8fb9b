pub mod Words
pub mod Help
pub mod States
pub mod Causes
pub mod Loads
pub mod Draws
pub mod Complete
