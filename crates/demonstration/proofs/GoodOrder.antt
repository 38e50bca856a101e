-- Vaults in good order at the roots of the demonstration.
use Rattle.std.proofs.Common.{◌≡◌, ◌≢◌, ◌∷◌, [], ℕ, refl, sym, subst, arith}
use Rattle.demo_core.specs.Making.{HoldsInOrder, StandsNew, phrase}
use Rattle.demo_core.specs.Tree.{HasItems}
use Rattle.demo_core.proofs.Standing.{same_vault, seen_alone}
use Rattle.folder_spec.specs.Path.{Path}
use Rattle.folder_spec.specs.Region.{at_or_below}
use Rattle.folder_spec.specs.Seen.{seen, under}
use Rattle.folder_spec.specs.State.{State}
use Rattle.folder_spec.specs.View.{ShowsAmong, View}
use Rattle.plain_tree.specs.Names as plain
use Rattle.vault_read.specs.Laws.{HaveOneAnswer}
use Rattle.vault_read.specs.OwnFolders.{HasOwnFolders}
use Rattle.vault_read.specs.Opened.{kind_of}
use Rattle.vault_read.specs.declared.vault.VaultKind.{VaultKind}
use Rattle.vault_read.specs.declared.vault.VaultKind.TheVariants as kind
use Rattle.vault_spec.specs.Alike.{IsOrderly}
use Rattle.vault_spec.specs.Empty.{IsEmptyVault}
use Rattle.vault_spec.specs.Findings.{IsClean}
use Rattle.vault_spec.specs.Opens.{NoItem, opened, tree}
use Rattle.vault_spec.specs.Tidy.{IsTidy}
use Rattle.vault_spec.specs.Vault.{Cryptomator, Gocryptfs, IsVault, Vault, format_of}
use Rattle.item_making.specs.Trees.{ShowsVault}
use Rattle.demonstration.specs.DemoSteps.{HoldsWell}

-- ---- no two directories share a folder

pub own_folders : (vault : Vault) (v : View) → kind_of vault ≡ kind.Gocryptfs → HasOwnFolders vault v
own_folders (Gocryptfs keys) v is = tt
own_folders (Cryptomator cm) v is = absurd (cc is)

pub own_of_good : (vault : Vault) (root : Path) (v : View) → ShowsVault (format_of vault) root v → HasOwnFolders vault (under root v)
own_of_good (Gocryptfs keys) root v good = tt
own_of_good (Cryptomator cm) root v good = good.orderly.own_folder

-- ---- what is alike at a root is in as good order

pub good_alike : (vault : Vault) (root : Path) (v w : View) → under root w ≡ under root v → ShowsVault (format_of vault) root v → ShowsVault (format_of vault) root w
good_alike vault root v w same good = record {
  clean = subst (IsClean (format_of vault)) (sym same) good.clean;
  orderly = subst (IsOrderly (format_of vault)) (sym same) good.orderly;
}

pub well_alike : (kind : VaultKind) (root : Path) (seed count : ℕ) (v w : View) → under root w ≡ under root v → HoldsWell kind root seed count v → HoldsWell kind root seed count w
well_alike kind root seed count v w same well = record {
  items = record {
    vault = well.items.vault;
    is = well.items.is;
    opens = subst (λ u. IsVault u phrase well.items.vault) (sym same) well.items.opens;
    items = subst (λ u. HasItems seed count (tree (format_of well.items.vault) u)) (sym same) well.items.items;
  };
  good = good_alike well.items.vault root v w same well.good;
}

-- ---- a new vault

pub new_own : HaveOneAnswer → (kind : VaultKind) (root : Path) (vault : Vault) (s : State) → IsVault (under root (seen s)) phrase vault → StandsNew kind root s → HasOwnFolders vault (under root (seen s))
new_own one kind root vault s opens new =
    let same : under root (seen s) ≡ under root new.view = seen_alone root s new.view new.alone in
    let is : new.vault ≡ vault = same_vault one (under root new.view) new.vault vault new.new.opens (subst (λ u. IsVault u phrase vault) same opens) in
    subst (λ x. HasOwnFolders x (under root (seen s))) is (own_of_good new.vault root (seen s) (good_alike new.vault root new.view (seen s) same new.good))

-- it has none of the items
none_of_them : (seed : ℕ) (vault : Vault) (v : View) → IsEmptyVault (format_of vault) v → HasItems seed 0 (tree (format_of vault) v)
none_of_them seed vault v empty = record {
  each = λ number few. absurd (omega (arith, few));
  others = λ path proper apart. by path proper;
}
  where
    by : (path : plain.Path) → path ≢ [] → opened (format_of vault) v path ≡ NoItem
    by [] proper = absurd (proper refl)
    by (name ∷ rest) proper = empty.others name rest

pub record IsNewWell (kind : VaultKind) (root : Path) (seed : ℕ) (v : View) : Type 0 where
  pub well : HoldsWell kind root seed 0 v
  pub tidy : IsTidy (format_of well.items.vault) (under root v)

pub new_well : (kind : VaultKind) (root : Path) (seed : ℕ) (s : State) → StandsNew kind root s → IsNewWell kind root seed (seen s)
unfolding well_alike
new_well kind root seed s new =
    let same : under root (seen s) ≡ under root new.view = seen_alone root s new.view new.alone in
    record {
      well = well_alike kind root seed 0 new.view (seen s) same (record {
        items = record { vault = new.vault; is = new.is; opens = new.new.opens; items = none_of_them seed new.vault (under root new.view) new.new.empty };
        good = new.good;
      });
      tidy = subst (IsTidy (format_of new.vault)) (sym same) new.new.tidy;
    }

-- ---- the first vault

pub first_well : (kind : VaultKind) (root : Path) (seed count : ℕ) (s : State) → HoldsInOrder kind root seed count s → HoldsWell kind root seed count (seen s)
first_well kind root seed count s holds =
    let at = holds.at in
    let alone : ShowsAmong (at_or_below root) s (holds.holds.view ∷ []) = subst (λ r. ShowsAmong (at_or_below r) s (holds.holds.view ∷ [])) at holds.holds.alone in
    let f = format_of holds.vault.vault in
    well_alike kind root seed count holds.holds.view (seen s) (seen_alone root s holds.holds.view alone) (record {
      items = record {
        vault = holds.vault.vault;
        is = holds.is;
        opens = subst (λ r. IsVault (under r holds.holds.view) phrase holds.vault.vault) at holds.holds.opens;
        items = subst (λ r. HasItems seed count (tree f (under r holds.holds.view))) at holds.holds.items;
      };
      good = subst (λ r. ShowsVault f r holds.holds.view) at holds.holds.good;
    })
