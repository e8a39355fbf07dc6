pub mod Lists
pub mod Jobs
pub mod Tables
pub mod Good
pub mod Runs
pub mod MayCome
pub mod Projected
