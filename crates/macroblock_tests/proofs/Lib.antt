pub mod ByTest
mod StrengthRows
