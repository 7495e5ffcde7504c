pub mod Toggles
