pub mod Questions
pub mod Results
pub mod ScoredClasses
pub mod Targets
pub mod Same
pub mod Plays
pub mod CardFaults
pub mod SideTricks
