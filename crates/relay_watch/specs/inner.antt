-- The laws of the desk with its tick and of the listener, proved. No public contract rests on them.
pub mod ClockLaws
pub mod WatchLaws
