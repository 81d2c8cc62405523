use Rattle.std.proofs.Common.{arith}
use Rattle.sketch_member.specs.Table.{table_of}
use Rattle.sketch_member.proofs.FormLemmas.{table_read}
use Rattle.sketch_member.proofs.format.read.Goals as goal

pub returns : goal.returns
returns c =
    let numbers = c.in_ok-seed.ensures in
    table_read (table_of _ c.split_at.result.1.now) c.args.bytes.now c.type_inv.bytes (record {
      seed = numbers.0;
      log2_bits = c.in_ok-log2_bits.ensures.0;
      hashes = c.in_ok-log2_bits.ensures.1;
      flag = numbers.2;
      number = numbers.3;
      bits = rw (c.from-start.ensures, c.in_ok-longs.ensures.0) at c.split_at.ensures.back;
    }) (omega arith) numbers.1 c.in_ok-longs.ensures.1 c.in_ok-log2_bits.ensures.2 numbers.4
    (omega (arith, c.split_at.ensures.back_len, c.in_ok-ensure_bits.ensures, c.byte_count.ensures))
