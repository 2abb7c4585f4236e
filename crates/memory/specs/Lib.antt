pub mod Fault
pub mod Cells
