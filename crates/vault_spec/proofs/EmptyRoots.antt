-- A vault whose root is entered and holds no item.
use Rattle.std.proofs.Common.{◌≡◌, ℕ, List, [], ◌∷◌, Ok, Err, sym, ap, ◌∙◌, inr, subst}
use Rattle.folder_spec.specs.View.{View}
use Rattle.plain_tree.specs.Names as plain
use Rattle.vault_spec.specs.Format.{Format, Directory}
use Rattle.vault_spec.specs.Standing.{Standing, Absent, Strange, File, Dir, root_of, standing_in, standing_from, standing}
use Rattle.vault_spec.specs.Opens as opens
use Rattle.vault_spec.specs.Opens.{opened}
use Rattle.vault_spec.specs.Reached.{Leads}
use Rattle.vault_spec.specs.Alike.{HasNoItem}
use Rattle.vault_spec.proofs.Steps.{behind_no_item, opens_alike}

pub record HasEmptyRoot (f : Format) (v : View) (top : Directory) : Type 0 where
  pub root : root_of f v ≡ Dir [] (Ok top)
  pub empty : (name : List ℕ) → HasNoItem (standing_in f v top name)

pub nothing_stands : (f : Format) (v : View) (top : Directory) → HasEmptyRoot f v top → (name : List ℕ) (rest : plain.Path) → HasNoItem (standing f v (name ∷ rest))
nothing_stands f v top has name rest =
    subst (λ s. HasNoItem (standing_from f v s (name ∷ rest))) (sym has.root) (behind_no_item f v (standing_in f v top name) rest (has.empty name))

-- so the root is entered, and nothing opens below it
pub root_entered : (f : Format) (v : View) (top : Directory) → HasEmptyRoot f v top → Leads f v [] top
root_entered f v top has = record { at = []; stands = has.root }

pub nothing_opens : (f : Format) (v : View) (top : Directory) → HasEmptyRoot f v top → (name : List ℕ) (rest : plain.Path) → opened f v (name ∷ rest) ≡ opens.NoItem
unfolding opened
nothing_opens f v top has name rest = opens_alike f v v (standing f v (name ∷ rest)) Absent (inr (nothing_stands f v top has name rest, record {}))

-- and its root alone is reached
pub only_top : (f : Format) (v : View) (top : Directory) → HasEmptyRoot f v top → (path : plain.Path) (dir : Directory) → Leads f v path dir → dir ≡ top
only_top f v top has [] dir leads = ap (dir_or dir) (sym leads.stands ∙ has.root)
  where
    dir_or : Directory → Standing → Directory
    dir_or d (Dir at (Ok e)) = e
    dir_or d (Dir at (Err lack)) = d
    dir_or d (File at) = d
    dir_or d (Strange at) = d
    dir_or d Absent = d
only_top f v top has (name ∷ rest) dir leads = absurd (subst HasNoItem leads.stands (nothing_stands f v top has name rest))
