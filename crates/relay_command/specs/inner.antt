-- Definitions that only contracts of private functions and of the command over lines cite, and the law of that command,
-- proved. No public contract rests on them.
pub mod Seen
pub mod Turns
