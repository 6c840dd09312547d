pub mod RowCall
pub mod RowFits
pub mod RowLaws
