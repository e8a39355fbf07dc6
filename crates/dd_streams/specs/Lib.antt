pub mod ListenFaults
pub mod Endings
pub mod Tags
