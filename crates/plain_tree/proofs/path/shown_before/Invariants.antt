use Rattle.std.proofs.Common.{◌≡◌, ◌++◌, ◌∷◌, [], take, string_bytes}
use Rattle.std.specs.List.{flat_map}
use Rattle.plain_tree.specs.Shown.{shown}
use Rattle.plain_tree.proofs.path.shown_before.Given as goal

-- the names so far are shown
abbrev pub invariant-loop-name : goal.invariant-loop-name
invariant-loop-name l =
    string_bytes l.text ≡ string_bytes l.fn.text ++ flat_map (λ name. (47 ∷ []) ++ shown name) (take l.name-index l.others)
