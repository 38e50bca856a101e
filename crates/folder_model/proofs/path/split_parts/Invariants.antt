use Rattle.std.proofs.Common.{◌≡◌, map}
use Rattle.std.specs.Rc.{rc_str_bytes}
use Rattle.folder_model.proofs.path.split_parts.Given as goal

-- what came so far is copied
abbrev pub invariant-loop-part : goal.invariant-loop-part
invariant-loop-part l = map (λ s. rc_str_bytes s) l.parts.items ≡ map (λ x. x.now) l.yielded
