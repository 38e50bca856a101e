use Rattle.std.proofs.Common.{◌≡◌, ◌++◌, take, drop}
use Rattle.folder_model.proofs.mem.node.read_from.Given as goal

-- the front is filled so far
abbrev pub invariant-loop-i : goal.invariant-loop-i
invariant-loop-i l = l.out ≡ take l.i l.rest ++ drop l.i l.initial.out
