mod MadeText
mod MadeScript
pub mod Replayed
pub mod SafelyCut
mod RegisterLines
mod RunLines
mod Trialled
