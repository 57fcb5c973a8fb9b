pub mod Names
mod Tables
mod Rows
mod Templates
pub mod OptionTexts
mod Standards
pub mod Connected
mod Firsts
