pub mod Reads
pub mod Bits
