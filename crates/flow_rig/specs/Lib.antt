pub mod Asker
pub mod Askers
pub mod Networks
pub mod Turns
