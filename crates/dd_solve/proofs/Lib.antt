pub mod Answered
pub mod Best
pub mod ByScore
pub mod Leads
pub mod Numbers
pub mod Reaching
