pub mod PaddingLaws
pub mod CroppingLaws
pub mod FilmLaws
mod WrittenExamples
pub mod OverLaws
