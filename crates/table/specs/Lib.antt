pub mod Form
pub mod Rules
pub mod Steps
pub mod Met
pub mod Taken
