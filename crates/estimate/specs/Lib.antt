pub mod Percent
pub mod Fault
pub mod Quote
pub mod Book
