pub mod AuditTurns
pub mod Owed
