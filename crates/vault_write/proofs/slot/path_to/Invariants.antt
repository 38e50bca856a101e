use Rattle.std.proofs.Common.{◌≡◌, take}
use Rattle.vault_write.proofs.slot.path_to.Given as goal

abbrev pub invariant-loop-name : goal.invariant-loop-name
invariant-loop-name l = l.path ≡ take l.name-index l.names
