pub mod Where
pub mod WhereLaws
pub mod Meanings
