pub mod Files
pub mod Fields
pub mod Faults
pub mod Reading
pub mod Counts
