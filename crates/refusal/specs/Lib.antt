pub mod Layers
pub mod Texts
