pub mod KnownAnswers
pub mod Laws
pub mod Strategies
-- what the public contracts of the crates below speak of, for the crates above
pub use Rattle.sketch_base.specs.Bytes
pub use Rattle.sketch_base.specs.Checks
pub use Rattle.sketch_base.specs.Codec
pub use Rattle.sketch_base.specs.ErrorValue
pub use Rattle.sketch_base.specs.Items
pub use Rattle.sketch_base.specs.Refusals
pub use Rattle.sketch_hash.specs.Columns
pub use Rattle.sketch_hash.specs.Murmur
pub use Rattle.sketch_hash.specs.Laws as StepLaws
pub use Rattle.sketch_hash.specs.Words
pub use Rattle.sketch_hash.specs.Pieces
pub use Rattle.sketch_hash.specs.PiecesWriteLemmas
pub use Rattle.sketch_hash.specs.SeedHash
pub use Rattle.sketch_hash.specs.States
pub use Rattle.sketch_hash.specs.Xxh64
