pub mod Scanning
pub mod Pairing
