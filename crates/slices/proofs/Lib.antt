pub mod Front
pub mod JoinLaws
pub mod OverLaws
pub mod Places
