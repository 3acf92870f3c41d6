-- Laws
pub mod RisingLaws
pub mod ItemsLaws
pub mod ContentLaws
pub mod SaidLaws
pub mod CutLaws
pub mod AnyNumbers
pub mod SameContents
pub mod Pieces
pub mod ArcsLaws
pub mod SetsLaws
pub mod PathsLaws
pub mod WritingLaws
pub mod KeptLaws
