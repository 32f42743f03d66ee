pub mod FitAt
