pub mod MatchStream
pub mod ReplaceStream
