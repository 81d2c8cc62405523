pub mod BytesLemmas
pub mod ErrorLemmas
pub mod ItemLemmas
