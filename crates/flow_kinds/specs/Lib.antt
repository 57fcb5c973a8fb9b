pub mod Purposes
pub mod Page
