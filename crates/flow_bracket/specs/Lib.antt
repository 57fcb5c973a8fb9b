pub mod Depth
pub mod Substreams
pub mod Scans
