use Rattle.vault_walk.specs.Levels.{HasGainedMembers}
use Rattle.vault_walk.proofs.levels.Walk.add_members.Given as goal

-- what the items so far tell is gained
abbrev pub invariant-loop-member : goal.invariant-loop-member
invariant-loop-member l = HasGainedMembers l.initial.self l.self l.path l.yielded l.initial.next.items l.next.items
