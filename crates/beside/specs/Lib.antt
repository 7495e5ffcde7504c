pub mod Masks
pub mod Besides
