pub mod Faults
pub mod Firsts
pub mod Laws
pub mod Names
pub mod Plans
pub mod Subnets
pub mod Texts
pub mod Told
