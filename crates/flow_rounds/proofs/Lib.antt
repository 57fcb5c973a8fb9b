pub mod Fronts
pub mod Mimicry
pub mod Tending
pub mod Leaving
pub mod Steps
pub mod Rounds
