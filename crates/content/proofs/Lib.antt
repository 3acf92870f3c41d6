-- Laws
pub mod LoadingLaws
