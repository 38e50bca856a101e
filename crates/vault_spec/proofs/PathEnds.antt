-- The two ends of a path.
use Rattle.std.proofs.Common.{◌≡◌, sym, ap, ◌∙◌}
use Rattle.folder_spec.specs.Path.{Part, Path, child}
use Rattle.folder_spec.proofs.Paths.{child-injective, child-last}

pub child-both : (p q : Path) (a b : Part) → child p a ≡ child q b → (p ≡ q) × (a ≡ b)
child-both p q a b e =
    let up : p ≡ q = child-injective p q a b e in
    (up, child-last q a b (ap (λ r. child r a) (sym up) ∙ e))
