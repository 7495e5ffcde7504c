pub mod Scans
pub mod Counts
pub mod Parts
pub mod Ruled
pub mod Kept
