use Rattle.std.proofs.Common.{◌≡◌, take}
use Rattle.sketch_vectors.specs.{kept_after}
use Rattle.sketch_vectors.proofs.first_bytes.FirstBytesHasher.write.Given as goal

abbrev pub invariant-loop-byte : goal.invariant-loop-byte
invariant-loop-byte l = l.self ≡ kept_after l.initial.self (take l.byte-index l.bytes)
