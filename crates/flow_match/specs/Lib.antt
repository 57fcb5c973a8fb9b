pub mod Match
pub mod MatchLaws
pub mod Replace
pub mod ReplaceLaws
pub mod Meanings
