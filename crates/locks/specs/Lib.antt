pub mod LockWord
pub mod LineMap
pub mod ObjectMap
