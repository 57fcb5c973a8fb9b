pub mod Folding
pub mod FoldingLaws
pub mod Made
pub mod Telling
pub mod Glue
pub mod GlueLaws
pub mod Count
pub mod CountLaws
