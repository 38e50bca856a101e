-- Where the folders of directories are.
use Rattle.std.proofs.Common.{◌≡◌, ◌≢◌, ℕ, Bool, true, false, List, [], ◌∷◌, ◌++◌, cond, Option, Some, None, Ok, Err, refl, sym, ap, ◌∙◌, inl, inr, subst, append-nil, append_assoc}
use Rattle.folder_spec.specs.Path.{Part, Path, below, child}
use Rattle.folder_spec.specs.Seen.{under}
use Rattle.folder_spec.specs.View.{NoEntry, Folder, View}
use Rattle.folder_spec.proofs.Paths.{begins_or_not, child_begins}
use Rattle.plain_tree.specs.Names as plain
use Rattle.plain_tree.specs.Names.{is_name}
use Rattle.vault_spec.specs.Alike.{HasFolders}
use Rattle.vault_spec.specs.Format.{Format, Directory, Item, Nothing, FileItem, DirectoryItem, NoItem, is_folder, key_of}
use Rattle.vault_spec.specs.Reached.{Leads}
use Rattle.vault_spec.specs.Standing.{Standing, Absent, Strange, File, Dir, directory_with, root_of, holds_full, item_at, standing_of, standing_in, standing_from}
use Rattle.vault_spec.specs.declared.Lack.TheVariants.{NoFolder}

-- the folder is that of the directory's key, with an entry at some path
abbrev pub IsOfKey : Format → Directory → Type 0
IsOfKey f dir = (at : Path) × (dir.folder ≡ f.folder_of at dir.key)

with_key : (f : Format) (v : View) (at : Path) (key : Option (List ℕ)) (dir : Directory) → directory_with f v at key ≡ Ok dir → IsOfKey f dir
with_key f v at None dir e = cc
with_key f v at (Some key) dir e = by_folder (is_folder (v (f.folder_of at key))) e
  where
    by_folder : (b : Bool) → cond b (Ok (record { folder = f.folder_of at key; key = key })) (Err NoFolder) ≡ Ok dir → IsOfKey f dir
    by_folder true e = let same : record { folder = f.folder_of at key; key = key } ≡ dir = cc in subst (IsOfKey f) same (at, refl)
    by_folder false e = cc

by_item : (f : Format) (v : View) (at : Path) (named : Bool) (item : Item) (entry : Path) (dir : Directory) → standing_of f v at named item ≡ Dir entry (Ok dir) → IsOfKey f dir
by_item f v at false Nothing entry dir e = cc
by_item f v at true Nothing entry dir e = cc
by_item f v at false (FileItem rest) entry dir e = cc
by_item f v at true (FileItem rest) entry dir e = cc
by_item f v at false DirectoryItem entry dir e = cc
by_item f v at true DirectoryItem entry dir e = let entered : directory_with f v at (key_of f (under at v)) ≡ Ok dir = cc in with_key f v at (key_of f (under at v)) dir entered
by_item f v at false (NoItem finding) entry dir e = cc
by_item f v at true (NoItem finding) entry dir e = cc

step_of_key : (f : Format) (v : View) (above : Directory) (name : List ℕ) (entry : Path) (dir : Directory) → standing_in f v above name ≡ Dir entry (Ok dir) → IsOfKey f dir
unfolding standing_in
step_of_key f v above name entry dir e = by_name (is_name name) e
  where
    by_name : (b : Bool) → cond b (standing_of f v (child above.folder (f.stored above.key name).name) (holds_full f v above (f.stored above.key name)) (item_at f v above (f.stored above.key name))) Absent ≡ Dir entry (Ok dir)
        → IsOfKey f dir
    by_name true e = by_item f v (child above.folder (f.stored above.key name).name) (holds_full f v above (f.stored above.key name)) (item_at f v above (f.stored above.key name)) entry dir e
    by_name false e = cc

behind_of_key : (f : Format) (v : View) (here : Standing) (rest : plain.Path) → ((entry : Path) (dir : Directory) → here ≡ Dir entry (Ok dir) → IsOfKey f dir)
    → (entry : Path) (dir : Directory) → standing_from f v here rest ≡ Dir entry (Ok dir) → IsOfKey f dir
behind_of_key f v here [] first entry dir e = first entry dir e
behind_of_key f v (Dir at (Ok above)) (n ∷ rest) first entry dir e = behind_of_key f v (standing_in f v above n) rest (step_of_key f v above n) entry dir e
behind_of_key f v (Dir at (Err lack)) (n ∷ rest) first entry dir e = cc
behind_of_key f v (File at) (n ∷ rest) first entry dir e = cc
behind_of_key f v (Strange at) (n ∷ rest) first entry dir e = cc
behind_of_key f v Absent (n ∷ rest) first entry dir e = cc

pub led_of_key : (f : Format) (v : View) (path : plain.Path) (dir : Directory) → Leads f v path dir → IsOfKey f dir
led_of_key f v path dir leads = behind_of_key f v (root_of f v) path root_of_key leads.at dir leads.stands
  where
    root_of_key : (entry : Path) (d : Directory) → root_of f v ≡ Dir entry (Ok d) → IsOfKey f d
    root_of_key entry d e = let entered : directory_with f v [] (f.root_key v) ≡ Ok d = cc in with_key f v [] (f.root_key v) d entered

-- a folder stands above all that stands
pub above_there : (v : View) → HasFolders v → (rest p : Path) → v (p ++ rest) ≡ Folder → v p ≡ Folder
above_there v folders [] p there = ap v (sym (append-nil p)) ∙ there
above_there v folders (a ∷ rest) p there =
    let next : v (child p a) ≡ Folder = above_there v folders rest (child p a) (ap v (append_assoc p (a ∷ []) rest) ∙ there) in
    folders p a (λ none. let clash : NoEntry ≡ Folder = sym none ∙ next in cc)

-- so an entry of a folder that stands isn't below what is free, but where it is that itself
pub off_free : (v : View) → HasFolders v → (folder : Path) (n : Part) (free : Path) → v folder ≡ Folder → v free ≡ NoEntry → child folder n ≢ free → below free (child folder n) ≡ None
off_free v folders folder n free there none apart = elim (begins_or_not free (child folder n)) [
  | inr off ↦ off
  | inl k ↦ elim (child_begins free folder n k.0 k.1) [
    | inl same ↦ absurd (apart same)
    | inr above ↦
        let stands : v free ≡ Folder = above_there v folders above.0 free (ap v (sym above.1) ∙ there) in
        let clash : NoEntry ≡ Folder = sym none ∙ stands in cc
  ]
]
