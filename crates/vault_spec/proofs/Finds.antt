-- Looking for a plain path finds what stands there.
use Rattle.std.proofs.Common.{◌≡◌, [], ◌∷◌, ◌++◌, Result, Ok, Err, ap, subst}
use Rattle.folder_spec.specs.Path.{Path}
use Rattle.folder_spec.specs.View.{View}
use Rattle.plain_tree.specs.Names as plain
use Rattle.vault_spec.specs.Format.{Format, Directory}
use Rattle.vault_spec.specs.Standing.{Standing, Absent, Strange, File, Dir, root_of, standing, standing_from, standing_in}
use Rattle.vault_spec.specs.Alike.{HasNoItem}
use Rattle.vault_spec.specs.Find.{find, find_from, enter, enter_from}
use Rattle.vault_spec.specs.Reached.{Leads}
use Rattle.vault_spec.specs.declared.Lack.{Lack}

-- what is found behind what stands here
pub found_from : (f : Format) (v : View) (front : plain.Path) (here : Standing) (path : plain.Path) (there : Standing)
    → find_from f v front here path ≡ Ok there → standing_from f v here path ≡ there
found_from f v front Absent [] there e = cc
found_from f v front (Strange at) [] there e = cc
found_from f v front (File at) [] there e = cc
found_from f v front (Dir at directory) [] there e = cc
found_from f v front Absent (name ∷ rest) there e = cc
found_from f v front (Strange at) (name ∷ rest) there e = cc
found_from f v front (File at) (name ∷ rest) there e = cc
found_from f v front (Dir at (Err lack)) (name ∷ rest) there e = cc
found_from f v front (Dir at (Ok dir)) (name ∷ rest) there e = found_from f v (front ++ name ∷ []) (standing_in f v dir name) rest there e

-- an item that stands there is found
pub item_from : (f : Format) (v : View) (front : plain.Path) (here : Standing) (path : plain.Path) (there : Standing)
    → ¬ HasNoItem there → standing_from f v here path ≡ there → find_from f v front here path ≡ Ok there
item_from f v front (File at) [] there item e = ap Ok e
item_from f v front (Dir at directory) [] there item e = ap Ok e
item_from f v front (Dir at (Ok dir)) (name ∷ rest) there item e = item_from f v (front ++ name ∷ []) (standing_in f v dir name) rest there item e
item_from f v front (Strange at) [] there item e = absurd (item (subst HasNoItem e (record {})))
item_from f v front Absent [] there item e = absurd (item (subst HasNoItem e (record {})))
item_from f v front Absent (name ∷ rest) there item e = absurd (item (subst HasNoItem e (record {})))
item_from f v front (Strange at) (name ∷ rest) there item e = absurd (item (subst HasNoItem e (record {})))
item_from f v front (File at) (name ∷ rest) there item e = absurd (item (subst HasNoItem e (record {})))
item_from f v front (Dir at (Err lack)) (name ∷ rest) there item e = absurd (item (subst HasNoItem e (record {})))

-- a directory that is entered stands there
pub entered_from : (f : Format) (v : View) (front : plain.Path) (here : Standing) (path : plain.Path) (dir : Directory)
    → enter_from f v front here path ≡ Ok dir → (at : Path) × (standing_from f v here path ≡ Dir at (Ok dir))
entered_from f v front Absent [] dir e = cc
entered_from f v front (Strange there) [] dir e = cc
entered_from f v front (File there) [] dir e = cc
entered_from f v front (Dir there (Err lack)) [] dir e = cc
entered_from f v front (Dir there (Ok found)) [] dir e = (there, cc)
entered_from f v front Absent (name ∷ rest) dir e = cc
entered_from f v front (Strange there) (name ∷ rest) dir e = cc
entered_from f v front (File there) (name ∷ rest) dir e = cc
entered_from f v front (Dir there (Err lack)) (name ∷ rest) dir e = cc
entered_from f v front (Dir there (Ok found)) (name ∷ rest) dir e = entered_from f v (front ++ name ∷ []) (standing_in f v found name) rest dir e

-- and one that stands there, to be entered, is entered
pub enters_from : (f : Format) (v : View) (front : plain.Path) (here : Standing) (path : plain.Path) (at : Path) (dir : Directory)
    → standing_from f v here path ≡ Dir at (Ok dir) → enter_from f v front here path ≡ Ok dir
enters_from f v front Absent [] at dir e = cc
enters_from f v front (Strange there) [] at dir e = cc
enters_from f v front (File there) [] at dir e = cc
enters_from f v front (Dir there (Err lack)) [] at dir e = cc
enters_from f v front (Dir there (Ok found)) [] at dir e = cc
enters_from f v front Absent (name ∷ rest) at dir e = cc
enters_from f v front (Strange there) (name ∷ rest) at dir e = cc
enters_from f v front (File there) (name ∷ rest) at dir e = cc
enters_from f v front (Dir there (Err lack)) (name ∷ rest) at dir e = cc
enters_from f v front (Dir there (Ok found)) (name ∷ rest) at dir e = enters_from f v (front ++ name ∷ []) (standing_in f v found name) rest at dir e

pub found_stands : (f : Format) (v : View) (path : plain.Path) (here : Standing) → find f v path ≡ Ok here → standing f v path ≡ here
unfolding find
found_stands f v path here e = found_from f v [] (root_of f v) path here e

pub file_found : (f : Format) (v : View) (path : plain.Path) (at : Path) → standing f v path ≡ File at → find f v path ≡ Ok (File at)
unfolding find
file_found f v path at e = item_from f v [] (root_of f v) path (File at) (λ none. none) e

pub directory_found : (f : Format) (v : View) (path : plain.Path) (at : Path) (directory : Result Directory Lack)
    → standing f v path ≡ Dir at directory → find f v path ≡ Ok (Dir at directory)
unfolding find
directory_found f v path at directory e = item_from f v [] (root_of f v) path (Dir at directory) (λ none. none) e

pub entered_leads : (f : Format) (v : View) (path : plain.Path) (dir : Directory) → enter f v path ≡ Ok dir → Leads f v path dir
unfolding enter
entered_leads f v path dir e = let stands : (at : Path) × (standing f v path ≡ Dir at (Ok dir)) = entered_from f v [] (root_of f v) path dir e in record { at = stands.0; stands = stands.1 }

pub leads_entered : (f : Format) (v : View) (path : plain.Path) (dir : Directory) → Leads f v path dir → enter f v path ≡ Ok dir
unfolding enter
leads_entered f v path dir leads = enters_from f v [] (root_of f v) path leads.at dir leads.stands
