pub mod Entries
pub mod Tracing
pub mod Moving
pub mod Determining
pub mod Faults
pub mod Tabling
pub mod Reaching
