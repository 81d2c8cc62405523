use Rattle.examples.proofs.bloom_filter.merge_in_place.Goals as goal

pub returns-clause-stands : goal.returns-clause-stands
returns-clause-stands c = λ hashes others stands stands_other.
    c.merge_law.ensures.both c.args.into.now c.args.worker.now c.merge.new.into hashes others
    c.in_ok-merge.ensures.1 stands stands_other
