-- Definitions that only contracts of private functions and of the command over lines cite, and the law of this command,
-- proved. No public contract rests on them.
pub mod FloorLaws
pub mod FloorSeen
pub mod FloorStage
pub mod FloorTextLaws
pub mod FloorTurns
pub mod Progress
