pub mod Progress
pub mod ScriptSeen
pub mod ScriptTrace
pub mod ScriptTurns
pub mod Stage
pub mod inner
