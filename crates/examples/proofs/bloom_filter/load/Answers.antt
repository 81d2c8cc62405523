use Rattle.std.proofs.Common.{◌≡◌, ◌++◌, ◌∙◌, length, length-append, drop, take, ap, sym, subst, arith}
use Rattle.std.proofs.lemmas.List.{length-take-le, take-append-drop}
use Rattle.sketch_bloom.specs.Header.{IsHeaderLength, header}
use Rattle.examples.proofs.bloom_filter.load.Goals as goal

pub returns-then-rest-bytes : goal.returns-then-rest-bytes
returns-then-rest-bytes c = λ filter others is starts.
    let read = c.in_ok-bytes.ensures in
    let rest = c.split_at.result.1.now in
    let after = drop c.in_ok-bytes.start c.args.input.now in
    let once = c.header_law.ensures.once c.in_ok-bytes.bytes (length filter) after
    (filter ++ others) read.0 is (sym read.2 ∙ starts) in
    omega (
      arith,
      c.if-rest-bytes.true,
      once.0,
      ap length (c.split_at.ensures.back ∙ once.1),
      length-append filter others,
    )

pub returns : goal.returns
returns c =
    let read = c.in_ok-bytes.ensures in
    let bytes = c.in_ok-bytes.bytes in
    let rest = c.split_at.result.1.now in
    let count = length-take-le bytes rest c.if-rest-bytes.false in
    let whole : c.args.input.now ≡ header bytes ++ rest =
    read.2 ∙ ap (λ l. header bytes ++ l) (sym c.split_at.ensures.back) in (
      subst IsHeaderLength (sym count) read.0,
      (
        drop bytes rest,
        whole ∙ ap (λ n. header n ++ rest) (sym count)
            ∙ ap (λ l. header (length (take bytes rest)) ++ l) (sym (take-append-drop bytes rest)),
      ),
    )
