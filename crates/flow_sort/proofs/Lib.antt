pub mod Stable
pub mod Unloading
pub mod SortStream
