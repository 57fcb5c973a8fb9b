pub mod Flat
pub mod FlatLaws
pub mod Group
pub mod GroupLaws
pub mod Rows
pub mod Meanings
