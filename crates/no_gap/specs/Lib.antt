pub mod NoGap
pub mod EntryColumns
pub mod OurLinks
pub mod Wrong
