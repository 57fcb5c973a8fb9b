pub mod Pattern
pub mod Template
pub mod Automata
pub mod Steps
pub mod Rewriting
pub mod Needles
