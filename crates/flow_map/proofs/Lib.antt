pub mod MappingEnd
pub mod MappingStream
pub mod PlainStream
pub mod Seams
