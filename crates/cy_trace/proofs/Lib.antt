pub mod CutLaws
pub mod FrontLaws
pub mod KeptApart
pub mod LineLists
pub mod OutsMade
pub mod TapeLaws
