-- The folder of a directory that a path leads to stands.
use Rattle.std.proofs.Common.{◌≡◌, ℕ, List, [], ◌∷◌, Ok, Err}
use Rattle.folder_spec.specs.Path.{Path}
use Rattle.folder_spec.specs.View.{Folder, View}
use Rattle.folder_spec.specs.Seen.{under}
use Rattle.plain_tree.specs.Names as plain
use Rattle.vault_spec.specs.Format.{Format, Directory, key_of}
use Rattle.vault_spec.specs.Standing.{Standing, Absent, Strange, File, Dir, root_of, entry_at, standing_in, standing_from}
use Rattle.vault_spec.specs.Reached.{Leads}
use Rattle.vault_spec.proofs.Grafts.{is_entered}
use Rattle.vault_spec.proofs.Clean.{StandsAs, stands_as}

step_there : (f : Format) (v : View) (dir : Directory) (name : List ℕ) (at : Path) (d : Directory) → standing_in f v dir name ≡ Dir at (Ok d) → v d.folder ≡ Folder
step_there f v dir name at d stands =
    let how : StandsAs f v dir name at (Ok d) = stands_as f v dir name at (Ok d) stands in
    (is_entered f v (entry_at f dir name) (key_of f (under (entry_at f dir name) v)) d how.entered).there

behind_there : (f : Format) (v : View) (here : Standing) (rest : plain.Path) → ((at : Path) (d : Directory) → here ≡ Dir at (Ok d) → v d.folder ≡ Folder)
    → (at : Path) (d : Directory) → standing_from f v here rest ≡ Dir at (Ok d) → v d.folder ≡ Folder
behind_there f v here [] there at d stands = there at d stands
behind_there f v (Dir a (Ok dir)) (n ∷ rest) there at d stands = behind_there f v (standing_in f v dir n) rest (step_there f v dir n) at d stands
behind_there f v (Dir a (Err lack)) (n ∷ rest) there at d stands = cc
behind_there f v (File a) (n ∷ rest) there at d stands = cc
behind_there f v (Strange a) (n ∷ rest) there at d stands = cc
behind_there f v Absent (n ∷ rest) there at d stands = cc

pub folder_stands : (f : Format) (v : View) (path : plain.Path) (dir : Directory) → Leads f v path dir → v dir.folder ≡ Folder
folder_stands f v path dir leads = behind_there f v (root_of f v) path root_there leads.at dir leads.stands
  where
    root_there : (at : Path) (d : Directory) → root_of f v ≡ Dir at (Ok d) → v d.folder ≡ Folder
    root_there at d e = (is_entered f v [] (f.root_key v) d cc).there
