-- ---- the definitions that contracts cite
pub mod Words
pub mod Pieces
pub mod Murmur
pub mod Xxh64
pub mod Columns
pub mod States
pub mod SeedHash
pub mod Laws
-- ---- Lemmas: these are proved, so nobody has to believe them. They are in specs/ because the
-- ---- proof of a law in an `impl` can cite nothing else.
pub mod PiecesWriteLemmas
