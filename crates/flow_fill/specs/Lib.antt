pub mod Cuts
pub mod Reading
pub mod Filling
pub mod Faults
pub mod Joining
pub mod Laws
