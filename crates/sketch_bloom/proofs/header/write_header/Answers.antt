use Rattle.std.proofs.Common.{arith, rules}
use Rattle.sketch_bloom.proofs.HeaderLemmas.{header_written}
use Rattle.sketch_bloom.proofs.header.write_header.Goals as goal

pub returns : goal.returns
returns c =
    let made = header_written c.args.bytes c.number_field-start.result.1 c.number_field-start.result.0
    c.copy_from_slice-2.new.self c.args.out.now c.number_field-start.ensures.long (omega arith)
    c.number_field-start.ensures.field c.copy_from_slice-2.ensures.after in
    rw c.copy_from_slice.ensures.after
    (search rules, made.0, made.1)
