pub mod CutShortLaws
pub mod SparseCuts
pub mod Extra
pub mod RawLaws
pub mod Rows
