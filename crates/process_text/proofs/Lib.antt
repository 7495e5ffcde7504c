pub mod Slotting
pub mod Showing
