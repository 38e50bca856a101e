use Rattle.std.proofs.Common.{◌≡◌, ◌+◌, ◌*◌, arith, refl}
use Rattle.kdf_suite.specs.Diagonals.{in_order}
use Rattle.kdf_suite.specs.RoMix.{mixed_times}
use Rattle.kdf_suite.proofs.Tables.{IsTable-none}
use Rattle.kdf_suite.proofs.ro_mix.fill_table.Goals as goal

pub rows-init : goal.rows-init
unfolding mixed_times
rows-init c = record { table = IsTable-none _ _ _ c.in_ok-table.ensures.items; mixed = refl }

pub rows-preserved : goal.rows-preserved
rows-preserved c =
    let first = in_order (32 * c.args.r) c.args.x.now in
    let next : 2 * c.rows._i + 1 + 1 ≡ 2 * (c.rows._i + 1) = omega arith in
    let now = c.rows.invariant.mixed in
    let after = c.in_ok-add_row.ensures.mixed first (2 * c.rows._i) now in
    rw (← next) (record {
      table = c.in_ok-add_row-2.ensures.table first (2 * c.rows._i + 1) (c.in_ok-add_row.ensures.table first (2 * c.rows._i) c.rows.invariant.table now) after;
      mixed = c.in_ok-add_row-2.ensures.mixed first (2 * c.rows._i + 1) after;
    })
