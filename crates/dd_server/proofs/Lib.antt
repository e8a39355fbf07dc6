pub mod Callers
pub mod Growing
pub mod ShortJobs
