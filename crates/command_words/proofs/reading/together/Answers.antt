use Rattle.std.proofs.Common.{◌++◌, ap, subst, sym, ◌∙◌}
use Rattle.command_words.proofs.WrittenValues.{all_written}
use Rattle.command_words.specs.Written.{AllWritten}
use Rattle.command_words.proofs.reading.together.Goals as goal

pub returns-clause-written : goal.returns-clause-written
returns-clause-written c kinds more each others =
    let whole = c.in_ok-append-2.ensures.items ∙ ap (λ it. it ++ c.args.flags.items) c.in_ok-append.ensures.items in
    subst (AllWritten (kinds ++ more)) (sym whole) (all_written kinds more c.args.values.items c.args.options.items c.args.flags.items each others)
