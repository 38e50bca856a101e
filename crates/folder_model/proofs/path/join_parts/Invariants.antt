use Rattle.std.proofs.Common.{◌≡◌, ◌++◌, map, take, string_bytes}
use Rattle.std.specs.Rc.{rc_str_bytes}
use Rattle.folder_model.proofs.Strings.{slashed}
use Rattle.folder_model.proofs.path.join_parts.Given as goal

-- the first ones of the further parts have been added
abbrev pub invariant-loop-part : goal.invariant-loop-part
invariant-loop-part l = string_bytes l.text ≡ string_bytes l.initial.text ++ slashed (map (λ s. rc_str_bytes s) (take l.part-index l.rest))
