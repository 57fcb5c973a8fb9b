pub mod Real
pub mod Access
