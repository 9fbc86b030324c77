pub mod DecodeLaws
pub mod Ends
pub mod FilmPictures
pub mod PcmLaws
pub mod PictureLaws
pub mod PlaneLaws
mod Examples
pub mod StoredLaws
