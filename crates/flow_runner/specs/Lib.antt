pub mod Attempts
pub mod Crews
pub mod Fair
pub mod Lines
pub mod Orders
pub mod Posts
pub mod Serving
pub mod Stretches
