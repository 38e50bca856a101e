use Rattle.std.proofs.Common.{◌≡◌, ◌++◌, ◌∷◌, [], map, take, string_bytes}
use Rattle.std.specs.List.{flat_map}
use Rattle.std.specs.Rc.{rc_str_bytes}
use Rattle.plain_tree.specs.Shown.{shown}
use Rattle.command_answers.proofs.texts.shown_before.Given as goal

-- the parts so far are shown
abbrev pub invariant-loop-part : goal.invariant-loop-part
invariant-loop-part l =
    string_bytes l.text ≡ string_bytes l.fn.text ++ flat_map (λ part. (47 ∷ []) ++ shown part) (map (λ s. rc_str_bytes s) (take l.part-index l.others))
