pub mod FrameFed
pub mod Lanes
pub mod NoiseLemmas
pub mod NoisyBits
pub mod Said
pub mod ToneLaws
pub mod Written
