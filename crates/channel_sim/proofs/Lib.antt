mod ActLemmas
-- what one end does, and what follows from it, keeps a world that fits
pub mod Acts
mod ArrivalLemmas
mod AsleepLemmas
-- which ends were passed behind a line
mod Behind
-- what is kept beside the calls, when one of them changes, goes or comes
mod BesideLemmas
-- what bounds the work of one line: at most so many passes and calls
pub mod BoundLemmas
-- the calls of a world, found by number, through all that changes them
pub mod CallsKept
mod CallsLemmas
-- a call that comes up at both ends keeps a world that fits
pub mod CallUp
-- each call caught up, one behind the other
mod CatchLemmas
-- one call changed among calls that stand for calls
mod ChangeLemmas
mod DueLemmas
-- quiet time of one end: n unit ticks in which nothing is due give nothing
pub mod EndJump
mod FlowRests
mod HandLemmas
-- quiet time of a world: n unit ticks in which nothing is due give nothing
pub mod Jump
mod LagLemmas
mod LineLemmas
-- the calls of turns caught up, and what it costs
mod ListedLemmas
-- the world that jumps over quiet ticks, as it is kept
pub mod MomentLemmas
mod PassLemmas
mod PlaceLemmas
-- worked calls played on the definitions
mod Played
-- a worked call over more than a day
mod PlayedLong
-- how far one event line goes: calls drawn, and ticks
mod Reached
-- each line of a script keeps a world that fits
pub mod Running
-- a session that is settled and lags, and hears something
mod RestLemmas
mod SeatLemmas
-- when frames were sent, and in which calls
mod SendingLemmas
mod SendsLemmas
mod SessionLemmas
-- between lines: what is kept stands for the world
pub mod Standing
mod StepLemmas
mod TickLemmas
-- a unit tick of the world keeps a world that fits
pub mod Ticks
mod TidyLemmas
-- the turns of sessions, and one that changes
mod TurnLemmas
-- the unit tick of the sessions, from turn to turn
mod TurnTicks
mod VehicleLemmas
mod WaitLemmas
mod WakeLemmas
-- the invariant at the world's tick, and whole traces
pub mod Whole
