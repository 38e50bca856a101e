use Rattle.std.proofs.Common.{◌≡◌, Some, map}
use Rattle.plain_tree.specs.Reading.{read_names}
use Rattle.plain_tree.proofs.reading.read_names.Given as goal

-- the parts so far are read
abbrev pub invariant-loop-part : goal.invariant-loop-part
invariant-loop-part l = read_names (map (λ part. part.now) l.yielded) ≡ Some l.names.items
