mod WordsGiven
mod DecodeLines
mod EncodeLines
mod FramesTaken
mod FramesLines
mod Shortest
mod ConformTold
pub mod Conformed
pub mod OneReply
