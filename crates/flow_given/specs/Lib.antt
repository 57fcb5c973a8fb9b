pub mod Filled
pub mod Calls
