-- In a clean gocryptfs vault nothing stands further down than items do, but for the files of their directories.
use Rattle.std.proofs.Common.{◌≡◌, ◌≢◌, ◌<◌, ℕ, zero, suc, ◌+◌, true, List, [], ◌∷◌, ◌++◌, Ok, Err, Result, refl, sym, ap, ◌∙◌, length, length-append, append_assoc, append-nil, arith}
use Rattle.folder_spec.specs.Path.{Part, Path, child}
use Rattle.folder_spec.specs.View.{NoEntry, Folder, FileOf, View}
use Rattle.folder_spec.specs.Seen.{under}
use Rattle.vault_values.specs.declared.keys.GoKeys.{GoKeys}
use Rattle.plain_tree.specs.Names as plain
use Rattle.plain_tree.specs.declared.NodeKind.TheVariants as node
use Rattle.vault_spec.specs.declared.Lack.{Lack}
use Rattle.vault_spec.specs.Alike.{HasFolders, IsOrderly}
use Rattle.vault_spec.specs.Depth.{IsWithinSteps}
use Rattle.vault_spec.specs.Findings.{IsClean, IsEntryOf}
use Rattle.vault_spec.specs.Format.{Directory, DirectoryItem, key_of}
use Rattle.vault_spec.specs.Gocryptfs.{go_item, go_format}
use Rattle.vault_spec.specs.Listing.{node_of}
use Rattle.vault_spec.specs.Reached.{Leads, IsReachedIn}
use Rattle.vault_spec.specs.Standing.{Dir, directory_with, entry_at, item_at, root_of, standing_in, standing_of}
use Rattle.vault_spec.specs.Vault.{Gocryptfs}
use Rattle.vault_spec.proofs.Accounted.{accounted}
use Rattle.vault_spec.proofs.Grafts.{is_entered, nothing_below, standing_named}
use Rattle.vault_spec.proofs.Plans.{stands_behind}

-- what has something below it is a folder
pub folder_above : (v : View) → HasFolders v → (at : Path) (a : Part) (rest : Path) → v (at ++ a ∷ rest) ≢ NoEntry → v at ≡ Folder
folder_above v folders at a rest there =
    folders at a (λ none. there (ap v (sym (append_assoc at (a ∷ []) rest)) ∙ nothing_below v folders (child at a) rest none))

-- a folder with a right name is entered as a directory
folder_entered : (keys : GoKeys) (v : View) → IsOrderly (go_format keys) v → (path : plain.Path) (dir : Directory) (entry : Part) (name : List ℕ) → Leads (go_format keys) v path dir
    → v (child dir.folder entry) ≡ Folder → IsEntryOf (go_format keys) v dir entry name
    → (inner : Directory) × (standing_in (go_format keys) v dir name ≡ Dir (child dir.folder entry) (Ok inner)) × (inner.folder ≡ child dir.folder entry)
folder_entered keys v orderly path dir entry name leads folder of = by_directory (directory_with (go_format keys) v at (key_of (go_format keys) (under at v))) refl
  where
    at : Path
    at = entry_at (go_format keys) dir name

    place : at ≡ child dir.folder entry
    place = ap (child dir.folder) of.stores

    item : item_at (go_format keys) v dir ((go_format keys).stored dir.key name) ≡ DirectoryItem
    item = ap go_item (ap v (append-nil at ∙ place) ∙ folder)

    stands : standing_in (go_format keys) v dir name ≡ Dir at (directory_with (go_format keys) v at (key_of (go_format keys) (under at v)))
    stands =
        standing_named (go_format keys) v dir name of.named
        ∙ ap (λ b. standing_of (go_format keys) v at b (item_at (go_format keys) v dir ((go_format keys).stored dir.key name))) of.full
        ∙ ap (standing_of (go_format keys) v at true) item

    by_directory : (x : Result Directory Lack) → directory_with (go_format keys) v at (key_of (go_format keys) (under at v)) ≡ x
        → (inner : Directory) × (standing_in (go_format keys) v dir name ≡ Dir (child dir.folder entry) (Ok inner)) × (inner.folder ≡ child dir.folder entry)
    by_directory (Ok inner) is =
        (inner, stands ∙ ap (Dir at) is ∙ ap (λ p. Dir p (Ok inner)) place, (is_entered (go_format keys) v at (key_of (go_format keys) (under at v)) inner is).form ∙ place)
    by_directory (Err lack) is = absurd (orderly.entered path dir name at lack leads (stands ∙ ap (Dir at) is))

-- what stands two parts below the folder of a directory stands below the folder of one in it
in_another : (keys : GoKeys) (v : View) → IsOrderly (go_format keys) v → IsClean (go_format keys) v → (path : plain.Path) (dir : Directory) (a b : Part) (rest : Path) → Leads (go_format keys) v path dir
    → v (dir.folder ++ a ∷ b ∷ rest) ≢ NoEntry
    → ¬ ((name : List ℕ) (inner : Directory) → standing_in (go_format keys) v dir name ≡ Dir (child dir.folder a) (Ok inner) → inner.folder ≢ child dir.folder a)
in_another keys v orderly clean path dir a b rest leads there none =
    accounted (Gocryptfs keys) v dir a clean (path, leads)
    (λ nothing. let clash : Folder ≡ NoEntry = sym folder ∙ nothing in cc)
    (λ belongs. let clash : Folder ≡ FileOf belongs.file.0 = sym folder ∙ belongs.file.1 in cc)
    (λ name of. let entered : (inner : Directory) × (standing_in (go_format keys) v dir name ≡ Dir (child dir.folder a) (Ok inner)) × (inner.folder ≡ child dir.folder a)
    = folder_entered keys v orderly path dir a name leads folder of in
    none name entered.0 entered.1 entered.2)
  where
    folder : v (child dir.folder a) ≡ Folder
    folder = folder_above v orderly.folders (child dir.folder a) b rest (λ nothing. there (ap v (sym (append_assoc dir.folder (a ∷ []) (b ∷ rest))) ∙ nothing))

-- the path to a directory of an orderly vault tells its steps
steps_of : (keys : GoKeys) (v : View) → IsOrderly (go_format keys) v → (path : plain.Path) (dir : Directory) → Leads (go_format keys) v path dir → (steps : ℕ) → length path ≡ steps → IsReachedIn (go_format keys) v steps dir
steps_of keys v orderly path dir leads steps size = record {
  path = path;
  leads = leads;
  size = size;
  least = λ other leads_too fewer. let same : length path ≡ length other = ap length (orderly.one_path path other dir leads leads_too) in omega (arith, same, size, fewer);
}

too_deep : (keys : GoKeys) (v : View) (steps : ℕ) → IsOrderly (go_format keys) v → IsClean (go_format keys) v → IsWithinSteps (go_format keys) v steps
    → (left : ℕ) (rest : Path) (path : plain.Path) (dir : Directory) → Leads (go_format keys) v path dir → length path + left ≡ steps → left + 1 < length rest → v (dir.folder ++ rest) ≢ NoEntry → ⊥
too_deep keys v steps orderly clean within left [] path dir leads size long there = omega (arith, long)
too_deep keys v steps orderly clean within left (a ∷ []) path dir leads size long there = omega (arith, long)
too_deep keys v steps orderly clean within zero (a ∷ b ∷ rest) path dir leads size long there =
    in_another keys v orderly clean path dir a b rest leads there
    (λ name inner stands folder. within dir name node.Dir (steps_of keys v orderly path dir leads steps (omega (arith, size))) (ap node_of stands))
too_deep keys v steps orderly clean within (suc left) (a ∷ b ∷ rest) path dir leads size long there =
    in_another keys v orderly clean path dir a b rest leads there
    (λ name inner stands folder. too_deep keys v steps orderly clean within left (b ∷ rest) (path ++ name ∷ []) inner
    (record { at = child dir.folder a; stands = stands_behind (go_format keys) v path dir name leads ∙ stands })
    (omega (arith, size, length-append path (name ∷ []))) (omega (arith, long))
    (λ none. there (ap v (sym (append_assoc dir.folder (a ∷ []) (b ∷ rest)) ∙ ap (λ p. p ++ b ∷ rest) (sym folder)) ∙ none)))

pub go_too_deep : (keys : GoKeys) (v : View) (steps : ℕ) → IsOrderly (go_format keys) v → IsClean (go_format keys) v → IsWithinSteps (go_format keys) v steps
    → (at : Path) → steps + 5 < length at → v at ≢ NoEntry → ⊥
go_too_deep keys v steps orderly clean within at long there =
    too_deep keys v steps orderly clean within steps at [] orderly.top (record { at = []; stands = orderly.root }) (omega arith) (omega (arith, long))
    (λ none. there (ap (λ p. v (p ++ at)) (sym (is_entered (go_format keys) v [] ((go_format keys).root_key v) orderly.top entered).form) ∙ none))
  where
    entered : directory_with (go_format keys) v [] ((go_format keys).root_key v) ≡ Ok orderly.top
    entered = let root : root_of (go_format keys) v ≡ Dir [] (Ok orderly.top) = orderly.root in cc
