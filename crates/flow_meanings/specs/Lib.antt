pub mod Meaning
pub mod Kinds
pub mod Means
pub mod Composition
pub mod Chains
pub mod Outcomes
pub mod Batches
pub mod SortingBatches
