pub mod Mapping
pub mod Telling
pub mod MappingLaws
pub mod Becoming
pub mod Plain
pub mod PlainLaws
pub mod Letters
pub mod Seams
