-- Definitions that only contracts of private functions and of the commands over lines cite, and the laws of these
-- commands, proved. No public contract rests on them.
pub mod Made
pub mod RegisterLaws
pub mod RegisterTurns
pub mod ReplayEnds
pub mod RunLaws
pub mod Trialled
