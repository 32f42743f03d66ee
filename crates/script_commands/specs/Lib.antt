pub mod CutTraces
pub mod Make
pub mod Register
pub mod Replay
pub mod Run
pub mod Trial
pub mod inner
