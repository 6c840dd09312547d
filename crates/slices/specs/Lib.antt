pub mod Characters
pub mod Joins
pub mod Lists
