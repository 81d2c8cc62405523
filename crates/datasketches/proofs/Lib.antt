pub mod ListLemmas
pub mod MurmurLawLemmas
pub mod Xxh64LawLemmas
pub mod IntegerLemmas
pub mod CallerLemmas
pub mod KnownAnswers
-- lemmas of the crates below, for the crates above
pub use Rattle.sketch_base.proofs.BytesLemmas
pub use Rattle.sketch_hash.proofs.MurmurAnswers
pub use Rattle.sketch_hash.proofs.Xxh64Answers
