use Rattle.std.proofs.Common.{rules, string_bytes}
use Rattle.sketch_base.proofs.ErrorLemmas.{printed_text}
use Rattle.sketch_base.proofs.error.Error.insufficient_data.Goals as goal

pub returns : goal.returns
returns g c =
    let printed = printed_text string_bytes _ _ c.to_string-made.ensures.ok in
    (printed.0, printed.1, c.from_text.ensures.refuses _ (search rules))
