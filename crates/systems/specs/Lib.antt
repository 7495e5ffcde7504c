pub mod Runs
pub mod Meaning
pub mod Moves
pub mod Registers
pub mod Faults
pub mod Tables
pub mod Keeping
