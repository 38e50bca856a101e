-- Entries of a folder, told by what stands below them.
use Rattle.std.proofs.Common.{◌≡◌, ◌∷◌, [], ◌++◌, sym, ◌∙◌, append_assoc}
use Rattle.folder_spec.specs.Path.{Part, Path, child}
use Rattle.folder_spec.proofs.Paths.{append-cancel}

same_first : (folder : Path) (a b : Part) (p q : Path) → folder ++ a ∷ p ≡ folder ++ b ∷ q → a ≡ b
same_first folder a b p q e = let rest : a ∷ p ≡ b ∷ q = append-cancel folder (a ∷ p) (b ∷ q) e in cc

-- at an entry or below it is one entry alone
pub one_below : (folder : Path) (a b : Part) (rest : Path) → child folder a ≡ child folder b ++ rest → a ≡ b
one_below folder a b rest e = same_first folder a b [] rest (e ∙ append_assoc folder (b ∷ []) rest)

pub one_inside : (folder : Path) (a b c : Part) (rest : Path) → child (child folder a) c ≡ child folder b ++ rest → a ≡ b
one_inside folder a b c rest e = same_first folder a b (c ∷ []) rest (sym (append_assoc folder (a ∷ []) (c ∷ [])) ∙ e ∙ append_assoc folder (b ∷ []) rest)
