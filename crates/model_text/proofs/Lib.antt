pub mod Grown
pub mod Readers
pub mod Assembled
