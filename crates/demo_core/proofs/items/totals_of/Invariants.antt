use Rattle.std.proofs.Common.{◌≡◌, ◌≤◌, ◌*◌}
use Rattle.demo_core.specs.Demonstration.{totals_of}
use Rattle.demo_core.proofs.items.totals_of.Given as goal

abbrev pub invariant-loop-number : goal.invariant-loop-number
invariant-loop-number l = record {
  is : l.totals ≡ totals_of l.seed l.number;
  directories : l.totals.directories ≤ l.number;
  files : l.totals.files ≤ l.number;
  bytes : l.totals.bytes ≤ 70000 * l.number;
}
