pub mod Files
pub mod Journals
pub mod Replaying
pub mod Replays
pub mod Runs
