pub mod Numbers
pub mod Getters
pub mod Tables
pub mod Facts
pub mod Rows
pub mod Steps
pub mod Laws
