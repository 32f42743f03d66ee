pub mod Modem
pub mod Tones
pub mod inner
