use Rattle.std.proofs.Common.{◌+◌, ◌∷◌, ◌++◌, [], arith, sym, ◌∙◌, ap, refl}
use Rattle.std.proofs.lemmas.List.{take_more_set}
use Rattle.std.proofs.lemmas.List.FromFn.{map-range_with_len_more}
use Rattle.demo_core.specs.Demonstration.{byte_of, bytes_from}
use Rattle.demo_core.proofs.items.fill.Goals as goal

pub loop-k-preserved : goal.loop-k-preserved
loop-k-preserved c =
    take_more_set c.loop-k.out c.loop-k.k c.byte_of.result (omega arith)
    ∙ ap (λ front. front ++ c.byte_of.result ∷ []) c.loop-k.invariant
    ∙ ap (λ byte. bytes_from c.args.seed c.args.number c.args.place c.loop-k.k ++ byte ∷ []) c.byte_of.ensures
    ∙ sym (map-range_with_len_more (byte_of c.args.seed c.args.number) c.args.place c.loop-k.k (c.args.place + c.loop-k.k) refl)
