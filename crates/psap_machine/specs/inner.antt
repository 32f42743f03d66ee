pub mod Ageing
