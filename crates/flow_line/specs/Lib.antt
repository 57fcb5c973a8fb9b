pub mod Works
pub mod Queue
pub mod Steps
