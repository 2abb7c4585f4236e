pub mod Fault
pub mod Kind
pub mod Number
pub mod StockRecord
