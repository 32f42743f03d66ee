pub mod Noise
pub mod ToneReading
pub mod Tones
pub mod inner
