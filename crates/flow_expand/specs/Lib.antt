pub mod Given
pub mod Marks
pub mod Outcomes
pub mod Places
pub mod Refusals
pub mod Tells
pub mod Walks
pub mod Ways
