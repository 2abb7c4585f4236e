pub mod Starts
pub mod LastStarts
