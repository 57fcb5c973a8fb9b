pub mod Reading
pub mod Each
pub mod Opening
pub mod PortNames
pub mod Stands
pub mod Options
pub mod Letters
pub mod Within
