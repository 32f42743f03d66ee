-- Definitions that only contracts of private functions cite: how reading a line ends, and where a command stands
-- between two lines. No public contract rests on them.
pub mod ReadEnds
pub mod Standing
