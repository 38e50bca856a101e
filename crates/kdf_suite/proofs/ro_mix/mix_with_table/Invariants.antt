use Rattle.std.proofs.Common.{◌≡◌, ℕ, ◌*◌, List}
use Rattle.kdf_suite.specs.Diagonals.{in_order}
use Rattle.kdf_suite.specs.RoMix.{mixed_times, mixed_turns}
use Rattle.kdf_suite.specs.Table.{IsTable}
use Rattle.kdf_suite.proofs.ro_mix.mix_with_table.Given as goal

abbrev pub invariant-turns : goal.invariant-turns
invariant-turns l =
    (first : List ℕ) → IsTable l.r first l.n l.table → in_order (32 * l.r) l.initial.x ≡ mixed_times l.r first l.n → in_order (32 * l.r) l.x ≡ mixed_turns l.n l.r first (2 * l._i)
