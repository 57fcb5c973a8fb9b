pub mod Asked
pub mod ChainRuns
pub mod ChainSizes
pub mod Loaded
pub mod LoadedLaws
pub mod RaceRuns
pub mod RaceSizes
