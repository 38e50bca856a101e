use Rattle.std.proofs.Common.{arith, ◌≡◌, ℕ, ◌-◌, ◌≤◌, length, length-drop, length-take}
use Rattle.port_model.proofs.Moves.{moved_to_front}
use Rattle.port_model.proofs.mem_source.MemSourceSource.take.Goals as goal

pub returns-clause-moved : goal.returns-clause-moved
returns-clause-moved c =
    let within : c.min-count.result ≤ length c.deref-2.result.now - c.self.inside.at = omega (arith, c.min-count.ensures, length-drop {A = ℕ}, length-take {A = ℕ}) in
    let bytes : c.deref-2.result.now ≡ c.self.inside.bytes.items = c.deref-2.ensures.value in
    rw (← c.self.view_is, ← bytes) (moved_to_front c.deref-2.result.now c.args.out.now c.copy_from_slice.new.self c.self.inside.at c.min-count.result c.copy_from_slice.ensures.after within)
