-- Where an item is a file, a file stands at its place.
use Rattle.std.proofs.Common.{◌≡◌, ℕ, Bool, true, false, cond, List, [], ◌∷◌, ◌++◌, Some, refl, sym, ap, ◌∙◌, subst}
use Rattle.std.specs.Prelude.{Contains, is_some}
use Rattle.folder_spec.specs.Path.{Path, child}
use Rattle.folder_spec.specs.Seen.{under, ShowsFile}
use Rattle.folder_spec.specs.View.{Found, NoEntry, Folder, FileOf, Special, View}
use Rattle.plain_tree.specs.Names.{is_name}
use Rattle.plain_tree.specs.declared.NodeKind.TheVariants as node
use Rattle.vault_spec.specs.Alike.{place_of}
use Rattle.vault_spec.specs.Cryptomator.{cm_item_of, content_file, id_file, symlink_file, folder_item, has_file}
use Rattle.vault_spec.specs.Format.{Format, Directory, Item, Nothing, FileItem, DirectoryItem, NoItem, is_file}
use Rattle.vault_spec.specs.Gocryptfs.{go_item}
use Rattle.vault_spec.specs.Listing.{node_of}
use Rattle.vault_spec.specs.Plan.{Planned}
use Rattle.vault_spec.specs.Standing.{Standing, Absent, Strange, File, Dir, holds_full, item_at, standing, standing_in, standing_of}
use Rattle.vault_spec.specs.Vault.{Vault, Gocryptfs, Cryptomator, format_of}
use Rattle.vault_walk.specs.Surveyed.{placed, ArePlaced, IsSurveyed}
use Rattle.vault_walk.specs.declared.surveying.Surveyed.{Surveyed}
use Rattle.vault_spec.proofs.Mapped.{mapped_from}
use Rattle.vault_walk.proofs.Walks.{StandBelow}

go_file : (x : Found) (rest : Path) → go_item x ≡ FileItem rest → (rest ≡ []) × (bytes : List ℕ) × (x ≡ FileOf bytes)
go_file NoEntry rest e = cc
go_file Folder rest e = cc
go_file (FileOf bytes) rest e = let same : rest ≡ [] = cc in (same, bytes, refl)
go_file Special rest e = cc

is_file_at : (x : Found) → is_file x ≡ true → (bytes : List ℕ) × (x ≡ FileOf bytes)
is_file_at NoEntry e = cc
is_file_at Folder e = cc
is_file_at (FileOf bytes) e = (bytes, refl)
is_file_at Special e = cc

folder_file : (long a b c : Bool) (rest : Path) → folder_item long a b c ≡ FileItem rest → (a ≡ true) × (rest ≡ content_file ∷ [])
folder_file true true false false rest e = let same : rest ≡ content_file ∷ [] = cc in (refl, same)
folder_file true true false true rest e = cc
folder_file true true true c rest e = cc
folder_file true false true false rest e = cc
folder_file true false true true rest e = cc
folder_file true false false true rest e = cc
folder_file true false false false rest e = cc
folder_file false true false false rest e = cc
folder_file false true false true rest e = cc
folder_file false true true c rest e = cc
folder_file false false true false rest e = cc
folder_file false false true true rest e = cc
folder_file false false false true rest e = cc
folder_file false false false false rest e = cc

cm_file : (long : Bool) (u : View) (x : Found) (rest : Path) → u [] ≡ x → cm_item_of long u x ≡ FileItem rest → ShowsFile u rest
cm_file long u NoEntry rest here e = cc
cm_file true u (FileOf bytes) rest here e = cc
cm_file false u (FileOf bytes) rest here e = let same : rest ≡ [] = cc in (bytes, ap u same ∙ here)
cm_file true u Special rest here e = cc
cm_file false u Special rest here e = cc
cm_file long u Folder rest here e =
    let both = folder_file long (has_file u content_file) (has_file u id_file) (has_file u symlink_file) rest e in
    let file = is_file_at (u (content_file ∷ [])) both.0 in (file.0, ap u both.1 ∙ file.1)

item_file : (vault : Vault) (long : Bool) (u : View) (rest : Path) → (format_of vault).item long u ≡ FileItem rest → ShowsFile u rest
item_file (Gocryptfs keys) long u rest e = let file = go_file (u []) rest e in (file.1, ap u file.0 ∙ file.2)
item_file (Cryptomator cm) long u rest e = cm_file long u (u []) rest refl e

file_item : (f : Format) (w : View) (entry : Path) (named : Bool) (item : Item) (at : Path) → standing_of f w entry named item ≡ File at → (rest : Path) × (item ≡ FileItem rest) × (at ≡ entry ++ rest)
file_item f w entry named Nothing at e = cc
file_item f w entry false (FileItem rest) at e = cc
file_item f w entry true (FileItem rest) at e = let same : at ≡ entry ++ rest = cc in (rest, refl, same)
file_item f w entry false DirectoryItem at e = cc
file_item f w entry true DirectoryItem at e = cc
file_item f w entry named (NoItem finding) at e = cc

file_stands : (vault : Vault) (w : View) (dir : Directory) (name : List ℕ) (at : Path) → standing_in (format_of vault) w dir name ≡ File at → ShowsFile w at
unfolding standing_in
file_stands vault w dir name at e = by_name (is_name name) e
  where
    by_name : (b : Bool) → cond b (standing_of (format_of vault) w (child dir.folder ((format_of vault).stored dir.key name).name) (holds_full (format_of vault) w dir ((format_of vault).stored dir.key name)) (item_at (format_of vault) w dir ((format_of vault).stored dir.key name))) Absent ≡ File at → ShowsFile w at
    by_name false stands = cc
    by_name true stands =
        let s = (format_of vault).stored dir.key name in
        let entry = child dir.folder s.name in
        let one = file_item (format_of vault) w entry (holds_full (format_of vault) w dir s) (item_at (format_of vault) w dir s) at stands in
        let file = item_file vault (is_some s.full) (under entry w) one.0 one.1 in (file.0, ap w one.2 ∙ file.1)

file_is : (s : Standing) (at : Path) → node_of s ≡ Some node.File → place_of s ≡ Some at → s ≡ File at
file_is Absent at e p = cc
file_is (Strange place) at e p = cc
file_is (File place) at e p = let same : place ≡ at = cc in ap (λ q. File q) same
file_is (Dir place directory) at e p = cc

-- each file item of a survey has its file
pub survey_files : StandBelow → (vault : Vault) (root : Path) (v : View) (surveyed : Surveyed) → IsSurveyed root (format_of vault) (under root v) surveyed
    → (item : Planned) → Contains surveyed.plan.items item → item.node ≡ node.File → ShowsFile v item.at
survey_files below vault root v surveyed s item there file =
    let from = mapped_from (placed root) s.plan item (subst (λ xs. Contains xs item) s.items_are there) in
    let stand = s.is.once.stand from.0 from.1 in
    let kind : from.0.node ≡ node.File = ap (λ (p : Planned). p.node) from.2 ∙ file in
    let up = below (format_of vault) (under root v) from.0.path from.0.at stand.0 stand.1.place in
    let is = file_is (standing (format_of vault) (under root v) from.0.path) from.0.at (stand.1.node ∙ ap (λ k. Some k) kind) stand.1.place in
    let one = file_stands vault (under root v) up.dir up.name from.0.at (up.stands ∙ is) in
    (one.0, ap v (ap (λ (p : Planned). p.at) (sym from.2)) ∙ one.1)

-- and each place is behind the root
pub placed_behind : (root : Path) (items plan : List Planned) → ArePlaced root items plan → (item : Planned) → Contains plan item → (rest : Path) × (item.at ≡ root ++ rest)
placed_behind root items plan p item there =
    let from = mapped_from (placed root) p.sorted item (subst (λ xs. Contains xs item) p.placed_are there) in
    (from.0.at, ap (λ (x : Planned). x.at) (sym from.2))
