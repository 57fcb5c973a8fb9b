pub mod Moves
pub mod Commuting
pub mod Staying
pub mod Calm
pub mod Diamond
pub mod Robins
pub mod Standards
