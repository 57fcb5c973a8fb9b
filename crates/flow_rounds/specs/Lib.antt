pub mod Whole
pub mod Rounds
pub mod Left
pub mod Steps
pub mod FedSteps
pub mod Standard
