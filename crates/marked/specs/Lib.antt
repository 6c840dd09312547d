pub mod Marked
pub mod MarkedListing
pub mod EntryCounts
