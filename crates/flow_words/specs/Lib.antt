pub mod Numbers
pub mod Arguments
pub mod Forms
pub mod Words
pub mod Lines
pub mod Pages
