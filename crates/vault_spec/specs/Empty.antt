-- A vault without items.
use Rattle.std.specs.Prelude.{◌≡◌, ℕ, List, [], ◌∷◌}
use Rattle.folder_spec.specs.View.{View}
use Rattle.plain_tree.specs.Names as plain
use Rattle.vault_spec.specs.Findings.{IsClean}
use Rattle.vault_spec.specs.Format.{Format, Directory}
use Rattle.vault_spec.specs.Opens.{NoItem, opened}
use Rattle.vault_spec.specs.Reached.{Leads}

-- it is clean, its root is entered, and nothing opens below that
pub record IsEmptyVault (f : Format) (v : View) : Type 0 where
  pub clean : IsClean f v
  pub root : (dir : Directory) × Leads f v [] dir
  pub others : (name : List ℕ) (rest : plain.Path) → opened f v (name ∷ rest) ≡ NoItem
