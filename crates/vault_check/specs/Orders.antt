-- Findings in order (private contracts only).
use Rattle.std.specs.Prelude.{◌≡◌, List, AllPairs}
use Rattle.std.specs.Ordering.{nat_cmp, ordering_then}
use Rattle.std.specs.declared.cmp.Ordering.{Ordering}
use Rattle.std.specs.declared.cmp.Ordering.TheVariants.{Less}
use Rattle.folder_model.specs.Order.{path_cmp}
use Rattle.vault_walk.specs.declared.fault.Finding.{Finding}

-- by path, part by part, and at one path by number
abbrev pub finding_cmp : Finding → Finding → Ordering
finding_cmp x y = ordering_then (path_cmp x.at y.at) (nat_cmp x.number y.number)

abbrev pub AreInOrder : List Finding → Type 0
AreInOrder findings = AllPairs (λ (x y : Finding). finding_cmp x y ≡ Less) findings

-- no two have one path and one number
abbrev pub AreDifferent : List Finding → Type 0
AreDifferent findings = AllPairs (λ (x y : Finding). x.at ≡ y.at → x.number ≡ y.number → ⊥) findings
