pub mod OneOutput
pub mod Solving
mod Blamed
