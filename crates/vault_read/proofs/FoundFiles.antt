-- What is found as a file has its content there.
use Rattle.std.proofs.Common.{◌≡◌, ℕ, Bool, true, false, List, [], ◌∷◌, ◌++◌, Result, Ok, Err, is_some, cond, refl, sym, ap, ◌∙◌, subst}
use Rattle.folder_spec.specs.Path.{Path, child}
use Rattle.folder_spec.specs.View.{Found, NoEntry, Folder, FileOf, Special, View}
use Rattle.folder_spec.specs.Seen.{ShowsFile, under}
use Rattle.plain_tree.specs.Names as plain
use Rattle.plain_tree.specs.Names.{is_name}
use Rattle.plain_tree.specs.declared.NodeKind.TheVariants as node
use Rattle.vault_names.specs.declared.entry.Stored.{Stored}
use Rattle.vault_spec.specs.Cryptomator.{content_file, id_file, symlink_file, folder_item, has_file, cm_item_of}
use Rattle.vault_spec.specs.Gocryptfs.{go_item}
use Rattle.vault_spec.specs.Format.{Format, Directory, Item, Nothing, FileItem, DirectoryItem, NoItem, is_file}
use Rattle.vault_spec.specs.Standing.{Standing, Absent, Strange, File, Dir, standing, standing_from, standing_in, standing_of, holds_full, item_at, root_of}
use Rattle.vault_spec.specs.Find.{Refusal, find}
use Rattle.vault_spec.specs.Find as spec
use Rattle.vault_spec.specs.declared.Lack.{Lack}
use Rattle.vault_spec.specs.Vault.{Vault, Gocryptfs, Cryptomator, format_of}
use Rattle.vault_faults.specs.declared.fault.FindFault.{FindFault}
use Rattle.vault_faults.specs.declared.fault.FindFault.TheVariants.{NotFound, WrongKind, NoDirKey, NoFolder, Failed, NoMemory}
use Rattle.vault_read.specs.declared.finding.Place.{Place}
use Rattle.vault_read.specs.Finding.{Refuses, IsPlace}
use Rattle.vault_read.specs.Contents.{file_found}
use Rattle.vault_read.specs.Reading.{IsContentAt}

-- a format whose file items have their contents
abbrev pub HasContents : Format → Type 0
HasContents f = (long : Bool) (v : View) (rest : Path) → f.item long v ≡ FileItem rest → ShowsFile v rest

go_contents : (v : View) (x : Found) → v [] ≡ x → (rest : Path) → go_item x ≡ FileItem rest → ShowsFile v rest
go_contents v NoEntry is rest e = cc
go_contents v (FileOf bytes) is rest e = let same : [] ≡ rest = cc in (bytes, ap v (sym same) ∙ is)
go_contents v Folder is rest e = cc
go_contents v Special is rest e = cc

file_there : (x : Found) → is_file x ≡ true → (bytes : List ℕ) × (x ≡ FileOf bytes)
file_there NoEntry e = cc
file_there Folder e = cc
file_there (FileOf bytes) e = (bytes, refl)
file_there Special e = cc

folder_content : (long contents dir symlink : Bool) (rest : Path) → folder_item long contents dir symlink ≡ FileItem rest → (rest ≡ content_file ∷ []) × (contents ≡ true)
folder_content true true false false rest e = (cc, refl)
folder_content false true false false rest e = cc
folder_content long false true false rest e = cc
folder_content long false false true rest e = cc
folder_content long false false false rest e = cc
folder_content long true true symlink rest e = cc
folder_content long true false true rest e = cc
folder_content long false true true rest e = cc

cm_contents : (long : Bool) (v : View) (x : Found) → v [] ≡ x → (rest : Path) → cm_item_of long v x ≡ FileItem rest → ShowsFile v rest
cm_contents long v NoEntry is rest e = cc
cm_contents true v (FileOf bytes) is rest e = cc
cm_contents false v (FileOf bytes) is rest e = let same : [] ≡ rest = cc in (bytes, ap v (sym same) ∙ is)
cm_contents true v Special is rest e = cc
cm_contents false v Special is rest e = cc
cm_contents long v Folder is rest e =
    let both : (rest ≡ content_file ∷ []) × (has_file v content_file ≡ true) = folder_content long (has_file v content_file) (has_file v id_file) (has_file v symlink_file) rest e in
    subst (ShowsFile v) (sym both.0) (file_there (v (content_file ∷ [])) both.1)

pub has_contents : (vault : Vault) → HasContents (format_of vault)
has_contents (Gocryptfs keys) = λ long v rest e. go_contents v (v []) refl rest e
has_contents (Cryptomator vault) = λ long v rest e. cm_contents long v (v []) refl rest e

module _ (f : Format) (contents : HasContents f) (v : View) where
  standing_content : (at : Path) (long named : Bool) (item : Item) (file : Path) → f.item long (under at v) ≡ item → standing_of f v at named item ≡ File file → ShowsFile v file
  standing_content at long named Nothing file is e = cc
  standing_content at long false (FileItem rest) file is e = cc
  standing_content at long true (FileItem rest) file is e =
      let same : at ++ rest ≡ file = cc in subst (ShowsFile v) same (contents long (under at v) rest is)
  standing_content at long false DirectoryItem file is e = cc
  standing_content at long true DirectoryItem file is e = cc
  standing_content at long named (NoItem finding) file is e = cc

  named_content : (named : Bool) (dir : Directory) (s : Stored) (file : Path)
      → cond named (standing_of f v (child dir.folder s.name) (holds_full f v dir s) (item_at f v dir s)) Absent ≡ File file → ShowsFile v file
  named_content true dir s file e = standing_content (child dir.folder s.name) (is_some s.full) (holds_full f v dir s) (item_at f v dir s) file refl e
  named_content false dir s file e = cc

  stands_content : (dir : Directory) (name : List ℕ) (file : Path) → standing_in f v dir name ≡ File file → ShowsFile v file
  unfolding standing_in
  stands_content dir name file e = named_content (is_name name) dir (f.stored dir.key name) file e

  from_content : (here : Standing) (path : plain.Path) (file : Path) → ((at : Path) → here ≡ File at → ShowsFile v at) → standing_from f v here path ≡ File file → ShowsFile v file
  from_content here [] file content e = content file e
  from_content Absent (name ∷ rest) file content e = cc
  from_content (Strange at) (name ∷ rest) file content e = cc
  from_content (File at) (name ∷ rest) file content e = cc
  from_content (Dir at (Err lack)) (name ∷ rest) file content e = cc
  from_content (Dir at (Ok dir)) (name ∷ rest) file content e = from_content (standing_in f v dir name) rest file (λ place is. stands_content dir name place is) e

  pub standing_has_content : (path : plain.Path) (file : Path) → standing f v path ≡ File file → ShowsFile v file
  standing_has_content path file e = from_content (root_of f v) path file (λ at is. (let no = is in cc no)) e

-- ---- the place that is found

-- a file
pub content_placed : (vault : Vault) (root : Path) (v : View) (path : plain.Path) (here : Standing) (place : Place) → standing (format_of vault) (under root v) path ≡ here
    → IsPlace root here place → place.node ≡ node.File → IsContentAt (format_of vault) root v path place.at
content_placed vault root v path Absent place stands is file = absurd is
content_placed vault root v path (Strange at) place stands is file = absurd is
content_placed vault root v path (File at) place stands is file =
    (at, is.1, stands, subst (ShowsFile v) (sym is.1) (standing_has_content (format_of vault) (has_contents vault) (under root v) path at stands))
content_placed vault root v path (Dir at directory) place stands is file = (let no = sym is.0 ∙ file in cc no)

-- a directory
pub directory_placed : (f : Format) (v : View) (root : Path) (path : plain.Path) (here : Standing) (place : Place)
    → ((at : Path) (directory : Result Directory Lack) → standing f v path ≡ Dir at directory → find f v path ≡ Ok (Dir at directory))
    → standing f v path ≡ here → IsPlace root here place → place.node ≡ node.Dir → file_found path (find f v path) ≡ Err (spec.WrongKind path)
directory_placed f v root path Absent place law stands is dir = absurd is
directory_placed f v root path (Strange at) place law stands is dir = absurd is
directory_placed f v root path (File at) place law stands is dir = (let no = sym is.0 ∙ dir in cc no)
directory_placed f v root path (Dir at directory) place law stands is dir = ap (file_found path) (law at directory stands)

-- a refusal
pub refuses_content : (root : Path) (path : plain.Path) (found : Result Standing Refusal) (fault : FindFault) → Refuses root found fault → Refuses root (file_found path found) fault
refuses_content root path found (NotFound at) h = ap (file_found path) h
refuses_content root path found (WrongKind at) h = ap (file_found path) h
refuses_content root path found (NoDirKey at) (rest, is, h) = (rest, is, ap (file_found path) h)
refuses_content root path found (NoFolder at) (rest, is, h) = (rest, is, ap (file_found path) h)
refuses_content root path found Failed h = tt
refuses_content root path found NoMemory h = tt
