pub mod Key
pub mod Template
