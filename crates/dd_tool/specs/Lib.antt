pub mod Ahead
pub mod Served
