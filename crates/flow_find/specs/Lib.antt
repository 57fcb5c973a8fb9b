pub mod Pieces
pub mod Find
pub mod Split
pub mod Cuts
pub mod Rewrite
pub mod FindLaws
pub mod SplitLaws
pub mod RewriteLaws
