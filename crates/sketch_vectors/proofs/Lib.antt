pub mod FirstBytesLemmas
