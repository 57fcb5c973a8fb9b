pub mod Kinds
pub mod Processes
pub mod Fits
pub mod Shares
pub mod Laws
