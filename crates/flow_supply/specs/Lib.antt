pub mod Options
pub mod Made
