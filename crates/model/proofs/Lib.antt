pub mod Apart
pub mod Denoted
pub mod Formed
pub mod Tallness
pub mod Opened
pub mod Facts
