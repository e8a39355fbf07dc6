pub mod Ahead
pub mod Notes
pub mod Said
pub mod Served
pub mod Told
