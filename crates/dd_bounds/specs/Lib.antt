pub mod Budgets
pub mod Spent
