pub mod Made
pub mod FindStream
pub mod SplitStream
pub mod RewriteStream
pub mod Telling
