pub mod AsRun
pub mod CarriedTraces
mod EntryTicks
mod FirstSeen
mod SameLines
mod SceneFollows
mod TellEvents
mod TellLines
mod TellOrders
mod TellScripts
mod PlayRelayLines
mod WorldEntries
