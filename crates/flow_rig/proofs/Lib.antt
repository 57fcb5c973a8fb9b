pub mod Fitting
pub mod Set
mod Versions
