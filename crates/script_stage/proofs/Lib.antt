pub mod ScriptSoFar
pub mod StagePlays
pub mod PlayedLines
pub mod SafeTraces
