pub mod Edges
pub mod Refusals
pub mod Unfit
pub mod Broken
pub mod Refuted
pub mod ByEnd
