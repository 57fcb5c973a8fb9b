pub mod Determinate
pub mod Standard
