pub mod BitLemmas
pub mod FormLemmas
pub mod LawLemmas
