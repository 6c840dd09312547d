pub mod Laws
pub mod NodeLaws
