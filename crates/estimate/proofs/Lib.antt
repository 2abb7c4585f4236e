pub mod Fairness
pub mod Orders
