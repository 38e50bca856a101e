-- The directory above each item of the demonstration is entered, and an empty vault is in good order.
use Rattle.std.proofs.Common.{◌≡◌, ◌≢◌, ◌∙◌, ◌*◌, ◌/◌, ◌%◌, ◌<◌, ℕ, zero, suc, Bool, true, false, cond, nat_eq, List, [], ◌∷◌, Result, Ok, Err, inl, refl, sym, ap, subst, arith}
use Rattle.std.proofs.lemmas.Bool.Decides.{nat_tests}
use Rattle.folder_spec.specs.Path as folder
use Rattle.folder_spec.specs.View.{FileOf, Folder, Found, NoEntry, Special, View}
use Rattle.plain_tree.specs.Names as plain
use Rattle.vault_spec.specs.Alike.{HasFolders, IsOrderly}
use Rattle.vault_spec.specs.Empty.{IsEmptyVault}
use Rattle.vault_spec.specs.Find.{enter}
use Rattle.vault_spec.specs.Format.{Directory, Format}
use Rattle.vault_spec.specs.Opens as opens
use Rattle.vault_spec.specs.Opens.{NoItem, opened, tree}
use Rattle.vault_spec.specs.Reached.{Leads}
use Rattle.vault_spec.specs.Standing.{Dir, directory_with, root_of, standing, standing_from, standing_in}
use Rattle.vault_spec.specs.Vault.{Vault, IsVault, LoadsFrom}
use Rattle.vault_spec.specs.declared.Finding.TheVariants as finding
use Rattle.vault_spec.specs.declared.Lack.{Lack}
use Rattle.vault_spec.specs.declared.Lack.TheVariants.{NoDirKey, NoFolder}
use Rattle.demo_core.specs.Demonstration.{directory_path, is_directory, path_of}
use Rattle.demo_core.specs.Tree.{HasItems, opens_as}
use Rattle.demo_core.proofs.Apart.{above_of, item_front}
use Rattle.vault_walk.proofs.OpenDirectories.{EnteredLeads, leads_to}
use Rattle.vault_walk.proofs.Walks.{StandBelow}

-- ---- the directory that is to have an item

directory_at : (seed count k : ℕ) (f : Format) (v : View) → HasItems seed count (tree f v) → k * 10 < count → tree f v (directory_path k) ≡ opens.Directory
directory_at seed count k f v has less =
    let ten : k * 10 / 10 ≡ k = omega arith in
    let whole : k * 10 % 10 ≡ 0 = omega arith in
    let is : is_directory (k * 10) ≡ true = grind (arith, nat_tests, whole) in
    let path : path_of (k * 10) ≡ directory_path k = rw is (ap directory_path ten) in
    let opens : opens_as seed (k * 10) ≡ opens.Directory = rw is refl in
    ap (tree f v) (sym path) ∙ has.each (k * 10) less ∙ opens

above_leads : StandBelow → (seed count k : ℕ) (f : Format) (v : View) → IsOrderly f v → HasItems seed count (tree f v) → k * 10 ≡ count → (dir : Directory) × Leads f v (above_of k) dir
above_leads below seed count zero f v orderly has is = (orderly.top, record { at = []; stands = orderly.root })
above_leads below seed count (suc k) f v orderly has is = by (nat_eq (suc k % 4) 0)
  where
    by : (b : Bool) → (dir : Directory) × Leads f v (cond b [] (directory_path k)) dir
    by true = (orderly.top, record { at = []; stands = orderly.root })
    by false = leads_to below f v orderly (directory_path k) (directory_at seed count k f v has (omega (arith, is)))

front_leads_by : StandBelow → (p : Bool) (seed number : ℕ) (f : Format) (v : View) → nat_eq (number % 10) 0 ≡ p → IsOrderly f v → HasItems seed number (tree f v) → (dir : Directory) × Leads f v (item_front p number) dir
front_leads_by below true seed number f v is orderly has =
    let none : number % 10 ≡ 0 = grind (arith, nat_tests, is) in
    above_leads below seed number (number / 10) f v orderly has (omega (arith, none))
front_leads_by below false seed number f v is orderly has =
    let some : number % 10 ≢ 0 = grind (arith, nat_tests, is) in
    leads_to below f v orderly (directory_path (number / 10)) (directory_at seed number (number / 10) f v has (omega (arith, some)))

pub front_entered : StandBelow → EnteredLeads → (seed number : ℕ) (f : Format) (v : View) → IsOrderly f v → HasItems seed number (tree f v)
    → (dir : Directory) × (enter f v (item_front (is_directory number) number) ≡ Ok dir)
front_entered below entered seed number f v orderly has =
    let led = front_leads_by below (is_directory number) seed number f v refl orderly has in
    (led.0, (entered f v (item_front (is_directory number) number) led.0).1 led.1)

-- ---- a vault without items

root_there : (v : View) (pass : List ℕ) (vault : Vault) → IsVault v pass vault → v [] ≡ Folder
root_there v pass vault = by (v []) refl
  where
    by : (x : Found) → v [] ≡ x → LoadsFrom x v pass (Ok vault) → v [] ≡ Folder
    by NoEntry e is = cc is
    by (FileOf bytes) e is = cc is
    by Special e is = cc is
    by Folder e is = e

module _ (f : Format) (v : View) (empty : IsEmptyVault f v) where
  root_entered : (r : Result Directory Lack) → directory_with f v [] (f.root_key v) ≡ r → (top : Directory) × (root_of f v ≡ Dir [] (Ok top))
  root_entered (Ok top) e = (top, ap (Dir []) e)
  root_entered (Err NoDirKey) e = absurd (empty.clean finding.NoDirKey [] refl (inl (ap (Dir []) e)))
  root_entered (Err NoFolder) e = absurd (empty.clean finding.NoFolder [] refl (inl (ap (Dir []) e)))

  no_other : (name : List ℕ) (rest : plain.Path) (at : folder.Path) (directory : Result Directory Lack) → standing f v (name ∷ rest) ≢ Dir at directory
  unfolding opened
  no_other name rest at directory stands =
      let never : opens.Directory ≡ NoItem = sym (ap (opens.opened_at f v) stands) ∙ empty.others name rest in cc never

  only_root : (path : plain.Path) (dir : Directory) → Leads f v path dir → path ≡ []
  only_root [] dir leads = refl
  only_root (name ∷ rest) dir leads = absurd (no_other name rest leads.at (Ok dir) leads.stands)

  the_root : (top dir : Directory) (path : plain.Path) → root_of f v ≡ Dir [] (Ok top) → Leads f v path dir → dir ≡ top
  the_root top dir path root leads =
      let same : Dir leads.at (Ok dir) ≡ Dir [] (Ok top) = sym (subst (λ p. standing f v p ≡ Dir leads.at (Ok dir)) (only_root path dir leads) leads.stands) ∙ root in cc same

  pub empty_orderly : (pass : List ℕ) (vault : Vault) → IsVault v pass vault → HasFolders v → IsOrderly f v
  empty_orderly pass vault opens folders =
      let root = root_entered (directory_with f v [] (f.root_key v)) refl in
      record {
        root_there = root_there v pass vault opens;
        top = root.0;
        root = root.1;
        folders = folders;
        entered = λ path dir name at lack leads locked.
            let dir_is : dir ≡ root.0 = the_root root.0 dir path root.1 leads in
            no_other name [] at (Err lack) (subst (λ here. standing_from f v here (name ∷ []) ≡ Dir at (Err lack)) (sym root.1) (subst (λ d. standing_in f v d name ≡ Dir at (Err lack)) dir_is locked));
        one_path = λ path other dir first second. only_root path dir first ∙ sym (only_root other dir second);
        own_folder = λ dir other first second same. the_root root.0 dir first.0 root.1 first.1 ∙ sym (the_root root.0 other second.0 root.1 second.1);
      }
