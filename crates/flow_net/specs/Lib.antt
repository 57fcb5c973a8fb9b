pub mod Calls
pub mod Drafts
pub mod Finishes
pub mod Initials
pub mod Kinds
pub mod Options
pub mod Over
pub mod Sound
