pub mod Inner
pub mod Listing
pub mod PrefixLines
