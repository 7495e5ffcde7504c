pub mod Members
pub mod Derived
pub mod Falling
pub mod Unique
