pub mod Listing
pub mod Words
pub mod First
pub mod Judged
