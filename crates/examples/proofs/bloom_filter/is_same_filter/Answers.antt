use Rattle.std.proofs.lemmas.Bool.Decides.{Decides-eqb}
use Rattle.std.proofs.lemmas.Slice.Eq.{slice_eq-Decides}
use Rattle.datasketches.proofs.BytesLemmas.{bytes_known}
use Rattle.examples.proofs.bloom_filter.is_same_filter.Goals as goal

pub returns-clause-always : goal.returns-clause-always
returns-clause-always c = λ hashes others size stands stands_other same.
    let one = c.args.one.now in
    let other = c.args.other.now in
    (slice_eq-Decides Decides-eqb one other c.eq.result c.eq.ensures).1
    (c.insert_law.ensures.same one other hashes others (bytes_known one c.type_inv.one)
    (bytes_known other c.type_inv.other) size stands stands_other same)
