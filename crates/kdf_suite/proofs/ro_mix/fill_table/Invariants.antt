use Rattle.std.proofs.Common.{◌≡◌, ◌*◌}
use Rattle.kdf_suite.specs.Diagonals.{in_order}
use Rattle.kdf_suite.specs.RoMix.{mixed_times}
use Rattle.kdf_suite.specs.Table.{IsTable}
use Rattle.kdf_suite.proofs.ro_mix.fill_table.Given as goal

abbrev pub invariant-rows : goal.invariant-rows
invariant-rows l = record {
  table : IsTable l.r (in_order (32 * l.r) l.initial.x) (2 * l._i) l.table.items;
  mixed : in_order (32 * l.r) l.x ≡ mixed_times l.r (in_order (32 * l.r) l.initial.x) (2 * l._i);
}
