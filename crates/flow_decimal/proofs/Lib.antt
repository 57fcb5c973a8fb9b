pub mod Fitting
pub mod Numerals
pub mod Scaling
pub mod Comparing
pub mod Bounding
pub mod Readings
pub mod Summing
pub mod Spellings
