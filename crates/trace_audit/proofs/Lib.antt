pub mod AuditOne
pub mod AuditRead
pub mod AuditSome
pub mod RulesLemmas
pub mod ShownLemmas
