-- A settle lasts.
use Rattle.std.proofs.Common.{Option, Some, None, Ok, ap}
use Rattle.folder_spec.specs.Event.{Changes, Settle, Told}
use Rattle.migration_sides.specs.Lasting.{Lasts}

pub settle_lasts : (t u : Option Told) (done : Unit {0}) → Changes Settle t u (Ok done) → Lasts u
settle_lasts (Some a) (Some b) done changes = ap (λ (c : Told). c.state.later) changes.1
settle_lasts None (Some b) done changes = absurd changes
settle_lasts t None done changes = tt
