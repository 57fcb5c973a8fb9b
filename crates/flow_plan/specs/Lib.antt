pub mod Network
pub mod Texts
pub mod Templates
pub mod Valid
