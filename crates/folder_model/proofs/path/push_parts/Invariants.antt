use Rattle.std.proofs.Common.{◌≡◌, ◌++◌, map, take}
use Rattle.std.specs.Rc.{rc_str_bytes}
use Rattle.folder_model.proofs.path.push_parts.Given as goal

-- the first ones of the further parts have been added
abbrev pub invariant-loop-part : goal.invariant-loop-part
invariant-loop-part l =
    map (λ s. rc_str_bytes s) l.parts.items ≡ map (λ s. rc_str_bytes s) l.initial.parts.items ++ map (λ s. rc_str_bytes s) (take l.part-index l.more)
