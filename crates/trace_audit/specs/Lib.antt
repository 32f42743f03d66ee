pub mod Audit
pub mod inner
pub mod Judged
pub mod Outcome
pub mod RulesStand
pub mod ShownStands
