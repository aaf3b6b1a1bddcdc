pub mod DemoLemmas
pub mod EndsLemmas
pub mod ImagesLemmas
pub mod LoadLemmas
pub mod WordsLemmas
