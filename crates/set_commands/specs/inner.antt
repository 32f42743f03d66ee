-- Definitions that only contracts of private functions cite, and the laws of the commands over lines, proved. No public
-- contract rests on them.
pub mod ConformLines
pub mod DecodeLaws
pub mod DecodePlaces
pub mod DecodeReplies
pub mod EncodeLaws
pub mod EncodePlaces
pub mod FrameLaws
pub mod FrameReplies
pub mod FrameStreams
pub mod FrameTurns
