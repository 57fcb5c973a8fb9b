pub mod Rounds
pub mod Spaced
pub mod Words
