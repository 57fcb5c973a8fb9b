pub mod Lines
pub mod Numbers
pub mod Input
pub mod Network
