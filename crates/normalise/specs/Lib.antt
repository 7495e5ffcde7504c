pub mod Closure
pub mod Law
pub mod Units
pub mod Nodes
pub mod Puts
pub mod Rooms
pub mod Writing
pub mod Made
