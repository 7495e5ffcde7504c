pub mod Keeping
pub mod Sounding
pub mod Once
