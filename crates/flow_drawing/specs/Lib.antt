pub mod Quotes
pub mod Ports
pub mod Remarks
pub mod Drawings
pub mod Folding
pub mod Spelling
pub mod Standing
