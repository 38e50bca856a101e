use Rattle.std.proofs.Common.{◌≡◌, take}
use Rattle.vault_walk.specs.Surveyed.{notes_behind}
use Rattle.vault_walk.proofs.surveying.notes_of.Given as goal

-- these are the notes of those so far
abbrev pub invariant-loop-one : goal.invariant-loop-one
invariant-loop-one l = l.notes.items ≡ notes_behind l.root (take l.one-index l.found)
