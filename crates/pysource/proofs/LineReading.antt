-- A source line by line, whatever is still to come.
pub mod CookiesLemmas
pub mod ComingLemmas
pub mod StreamLemmas
pub mod MayComeLemmas
pub mod NextLineLemmas
pub mod HeadLemmas
pub mod OpenLemmas
