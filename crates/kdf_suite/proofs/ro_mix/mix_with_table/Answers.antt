use Rattle.std.proofs.Common.{◌≡◌, ◌∙◌, ◌+◌, ◌*◌, ap, arith}
use Rattle.kdf_suite.specs.RoMix.{mixed_turns}
use Rattle.kdf_suite.proofs.ro_mix.mix_with_table.Goals as goal

pub turns-init : goal.turns-init
unfolding mixed_turns
turns-init c = λ first table mixed. mixed

pub turns-preserved : goal.turns-preserved
turns-preserved c = λ first table mixed.
    let next : 2 * c.turns._i + 1 + 1 ≡ 2 * (c.turns._i + 1) = omega arith in
    c.turn-in-turns.ensures first (2 * c.turns._i + 1) table (c.turn.ensures first (2 * c.turns._i) table (c.turns.invariant first table mixed))
    ∙ ap (mixed_turns c.args.n c.args.r first) next
