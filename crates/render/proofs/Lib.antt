pub mod EntryLaws
pub mod RefusalLaws
