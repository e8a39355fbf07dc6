pub mod Kept
pub mod Calls
