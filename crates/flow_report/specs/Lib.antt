pub mod Left
pub mod Names
pub mod Of
pub mod States
pub mod Text
