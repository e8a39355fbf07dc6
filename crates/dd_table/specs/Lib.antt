pub mod Front
pub mod Places
