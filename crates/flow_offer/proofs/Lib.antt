mod Lists
mod Tables
mod Versions
pub mod Owns
mod Fitting
mod Parts
