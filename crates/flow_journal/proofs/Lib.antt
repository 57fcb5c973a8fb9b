mod FileLaws
mod FileLemmas
pub mod HeaderLemmas
mod Levels
mod Refusing
mod Replayed
pub mod Rounds
pub mod Scheduled
mod Stamps
mod Stops
mod Turning
