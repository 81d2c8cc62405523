use Rattle.std.proofs.Common.{rules}
use Rattle.sketch_bloom.proofs.BlockLemmas.{byte_fits, mask_bits}
use Rattle.sketch_bloom.proofs.block.mask.Goals as goal

pub returns : goal.returns
returns c = record { bytes = byte_fits 32 _; bits = search (rules, mask_bits c.args.hash) }
