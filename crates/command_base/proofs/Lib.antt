mod LinesRead
mod LinesEnded
mod CommandTurns
pub mod LineEnds
pub mod WholeReplies
