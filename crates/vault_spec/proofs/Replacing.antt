-- A file's content that is replaced: just that content changes.
use Rattle.std.proofs.Common.{◌≡◌, ◌≢◌, ◌⊎◌, ℕ, Bool, true, false, List, [], ◌∷◌, ◌++◌, Ok, Err, Result, cond, refl, sym, ap, ◌∙◌, inl, inr, subst, append-nil, append_assoc, Some, None, Option, is_some}
use Rattle.std.specs.Option.{option_and_then}
use Rattle.folder_spec.specs.Path.{Part, Path, child}
use Rattle.folder_spec.specs.View.{Found, NoEntry, Folder, FileOf, Special, View, kind_found}
use Rattle.folder_spec.specs.Seen.{under, ShowsFile}
use Rattle.folder_spec.specs.Edit.{edited, file_edit}
use Rattle.folder_spec.proofs.Edits.{off_edit}
use Rattle.folder_spec.proofs.Paths.{one_or_not, begins_or_not, base_or_child}
use Rattle.plain_tree.specs.Names as plain
use Rattle.plain_tree.specs.Names.{is_name}
use Rattle.vault_spec.specs.declared.Lack.{Lack}
use Rattle.vault_spec.specs.declared.Lack.TheVariants.{NoFolder}
use Rattle.vault_spec.specs.Format.{Format, Directory, Item, Nothing, FileItem, DirectoryItem, NoItem, is_folder, file_bytes, key_of}
use Rattle.vault_spec.specs.Standing.{Standing, Absent, Strange, File, Dir, root_of, directory_with, entry_at, is_file_of, holds, holds_full, item_at, standing_of, standing_in, standing_from, standing}
use Rattle.vault_spec.specs.Opens.{opened, opened_at, opened_file}
use Rattle.vault_spec.specs.Reached.{Leads}
use Rattle.vault_spec.specs.Alike.{HasFolders, place_of}
use Rattle.vault_spec.specs.Adding.{ContentsAreReplacedAlone}
use Rattle.vault_spec.specs.Anywhere.{OpensAnew, ContentsOpenAnew}
use Rattle.vault_spec.proofs.Lawful.{IsLawful, SparesConfiguration}
use Rattle.vault_spec.proofs.Steps.{along}
use Rattle.vault_spec.proofs.Grafts.{IsRight, reached_right, nothing_below, same_standing, content_there, standing_named, standing_unnamed}
use Rattle.vault_spec.proofs.Places.{brought_there, brought}
use Rattle.vault_spec.proofs.OwnPlaces.{own_places, StandsUnder, stands_under}

-- nothing stands below a file
below_file : (v : View) → HasFolders v → (at : Path) (bytes : List ℕ) → v at ≡ FileOf bytes → (a : Part) (rest : Path) → v (at ++ a ∷ rest) ≡ NoEntry
below_file v folders at bytes file a rest = ap v (sym (append_assoc at (a ∷ []) rest)) ∙ nothing_below v folders (child at a) rest (none (v (child at a)) refl)
  where
    none : (x : Found) → v (child at a) ≡ x → v (child at a) ≡ NoEntry
    none NoEntry is = is
    none Folder is = let up : v at ≡ Folder = folders at a (λ e. cc) in cc
    none (FileOf b) is = let up : v at ≡ Folder = folders at a (λ e. cc) in cc
    none Special is = let up : v at ≡ Folder = folders at a (λ e. cc) in cc

-- A file whose content is replaced.
pub record IsReplaced (f : Format) (lawful : IsLawful f) (v : View) (at : Path) (old : List ℕ) : Type 0 where
  pub folders : HasFolders v
  pub file : v at ≡ FileOf old
  pub no_key : (path : plain.Path) (dir : Directory) (name : List ℕ) → Leads f v path dir → child (entry_at f dir name) f.key_file ≢ at
  pub no_root_key : f.key_file ∷ [] ≢ at
  pub no_configuration : SparesConfiguration at
  pub no_name : (path : plain.Path) (dir : Directory) (name : List ℕ) → Leads f v path dir → is_name name ≡ true → is_some (f.stored dir.key name).full ≡ true
      → dir.folder ++ f.full_at (f.stored dir.key name).name ≢ at

-- the edit leaves all but the file, and the file one
pub replaced_elsewhere : (f : Format) (lawful : IsLawful f) (v : View) (at : Path) (old bytes : List ℕ) → IsReplaced f lawful v at old → (q : Path) → q ≢ at → edited v (file_edit at bytes) q ≡ v q
replaced_elsewhere f lawful v at old bytes r q apart = elim (begins_or_not at q) [
  | inr none ↦ off_edit v (file_edit at bytes) q none
  | inl k ↦ by_rest k.0 k.1
]
  where
    by_rest : (rest : Path) → q ≡ at ++ rest → edited v (file_edit at bytes) q ≡ v q
    by_rest [] is = absurd (apart (is ∙ append-nil at))
    by_rest (a ∷ rest) is = ap (edited v (file_edit at bytes)) is ∙ brought v (file_edit at bytes) (a ∷ rest) ∙ sym (below_file v r.folders at old r.file a rest) ∙ ap v (sym is)

pub replaced_kind : (f : Format) (lawful : IsLawful f) (v : View) (at : Path) (old bytes : List ℕ) → IsReplaced f lawful v at old → (q : Path) → kind_found (v q) ≡ kind_found (edited v (file_edit at bytes) q)
replaced_kind f lawful v at old bytes r q = elim (one_or_not q at) [
  | inl here ↦ ap (λ p. kind_found (v p)) here ∙ ap kind_found r.file ∙ sym (ap kind_found (brought_there v (file_edit at bytes))) ∙ ap (λ p. kind_found (edited v (file_edit at bytes) p)) (sym here)
  | inr apart ↦ ap kind_found (sym (replaced_elsewhere f lawful v at old bytes r q apart.0))
]

folder_by_kind : (x y : Found) → kind_found x ≡ kind_found y → is_folder x ≡ is_folder y
folder_by_kind NoEntry NoEntry e = refl
folder_by_kind Folder Folder e = refl
folder_by_kind (FileOf a) (FileOf b) e = refl
folder_by_kind Special Special e = refl
folder_by_kind NoEntry Folder e = cc
folder_by_kind NoEntry (FileOf b) e = refl
folder_by_kind NoEntry Special e = refl
folder_by_kind Folder NoEntry e = cc
folder_by_kind Folder (FileOf b) e = cc
folder_by_kind Folder Special e = cc
folder_by_kind (FileOf a) NoEntry e = refl
folder_by_kind (FileOf a) Folder e = cc
folder_by_kind (FileOf a) Special e = refl
folder_by_kind Special NoEntry e = refl
folder_by_kind Special Folder e = cc
folder_by_kind Special (FileOf b) e = refl

-- a directory is entered alike
entered_alike : (f : Format) (v w : View) (at : Path) (key : Option (List ℕ)) → ((q : Path) → kind_found (v q) ≡ kind_found (w q)) → directory_with f v at key ≡ directory_with f w at key
entered_alike f v w at None kinds = refl
entered_alike f v w at (Some key) kinds =
    ap (λ b. cond {A = Result Directory Lack} b (Ok (record { folder = f.folder_of at key; key = key })) (Err NoFolder)) (folder_by_kind (v (f.folder_of at key)) (w (f.folder_of at key)) (kinds (f.folder_of at key)))

-- an entry, its key and its long-name file stay
pub item_same : (f : Format) (lawful : IsLawful f) (v : View) (at : Path) (old bytes : List ℕ) → IsReplaced f lawful v at old → (dir : Directory) (name : List ℕ)
    → item_at f v dir (f.stored dir.key name) ≡ item_at f (edited v (file_edit at bytes)) dir (f.stored dir.key name)
item_same f lawful v at old bytes r dir name =
    lawful.item_by_kinds (is_some (f.stored dir.key name).full) (under (entry_at f dir name) v) (under (entry_at f dir name) (edited v (file_edit at bytes)))
    (replaced_kind f lawful v at old bytes r (entry_at f dir name ++ [])) (λ m is. replaced_kind f lawful v at old bytes r (entry_at f dir name ++ m ∷ []))

pub key_same : (f : Format) (lawful : IsLawful f) (v : View) (at : Path) (old bytes : List ℕ) → IsReplaced f lawful v at old → (path : plain.Path) (dir : Directory) (name : List ℕ) → Leads f v path dir
    → key_of f (under (entry_at f dir name) v) ≡ key_of f (under (entry_at f dir name) (edited v (file_edit at bytes)))
key_same f lawful v at old bytes r path dir name leads =
    ap (λ x. option_and_then f.key_in (file_bytes x)) (sym (replaced_elsewhere f lawful v at old bytes r (child (entry_at f dir name) f.key_file) (r.no_key path dir name leads)))

pub full_same : (f : Format) (lawful : IsLawful f) (v : View) (at : Path) (old bytes : List ℕ) → IsReplaced f lawful v at old → (path : plain.Path) (dir : Directory) (name : List ℕ) → Leads f v path dir
    → is_name name ≡ true → holds_full f v dir (f.stored dir.key name) ≡ holds_full f (edited v (file_edit at bytes)) dir (f.stored dir.key name)
full_same f lawful v at old bytes r path dir name leads is = by_full (f.stored dir.key name).full (r.no_name path dir name leads is)
  where
    by_full : (full : Option (List ℕ)) → (is_some full ≡ true → dir.folder ++ f.full_at (f.stored dir.key name).name ≢ at)
        → holds v (dir.folder ++ f.full_at (f.stored dir.key name).name) full ≡ holds (edited v (file_edit at bytes)) (dir.folder ++ f.full_at (f.stored dir.key name).name) full
    by_full None apart = refl
    by_full (Some text) apart = ap (λ x. is_file_of text (file_bytes x)) (sym (replaced_elsewhere f lawful v at old bytes r (dir.folder ++ f.full_at (f.stored dir.key name).name) (apart refl)))

-- what stands under each name stays
pub step_same : (f : Format) (lawful : IsLawful f) (v : View) (at : Path) (old bytes : List ℕ) → IsReplaced f lawful v at old → (path : plain.Path) (dir : Directory) (name : List ℕ) → Leads f v path dir
    → standing_in f v dir name ≡ standing_in f (edited v (file_edit at bytes)) dir name
step_same f lawful v at old bytes r path dir name leads = by_name (is_name name) refl
  where
    by_name : (b : Bool) → is_name name ≡ b → standing_in f v dir name ≡ standing_in f (edited v (file_edit at bytes)) dir name
    by_name false is = standing_unnamed f v dir name is ∙ sym (standing_unnamed f (edited v (file_edit at bytes)) dir name is)
    by_name true is =
        standing_named f v dir name is
        ∙ same_standing f v (edited v (file_edit at bytes)) (entry_at f dir name) (holds_full f v dir (f.stored dir.key name)) (item_at f v dir (f.stored dir.key name))
        (λ _ _. entered_alike f v (edited v (file_edit at bytes)) (entry_at f dir name) (key_of f (under (entry_at f dir name) v)) (replaced_kind f lawful v at old bytes r)
        ∙ ap (directory_with f (edited v (file_edit at bytes)) (entry_at f dir name)) (key_same f lawful v at old bytes r path dir name leads))
        ∙ ap (λ b. standing_of f (edited v (file_edit at bytes)) (entry_at f dir name) b (item_at f v dir (f.stored dir.key name))) (full_same f lawful v at old bytes r path dir name leads is)
        ∙ ap (standing_of f (edited v (file_edit at bytes)) (entry_at f dir name) (holds_full f (edited v (file_edit at bytes)) dir (f.stored dir.key name))) (item_same f lawful v at old bytes r dir name)
        ∙ sym (standing_named f (edited v (file_edit at bytes)) dir name is)

-- so it does at each path
same_from : (f : Format) (v w : View) → ((path : plain.Path) (dir : Directory) (name : List ℕ) → Leads f v path dir → standing_in f v dir name ≡ standing_in f w dir name)
    → (front : plain.Path) (here : Standing) (rest : plain.Path) → standing f v front ≡ here → standing_from f v here rest ≡ standing_from f w here rest
same_from f v w steps front here [] is = refl
same_from f v w steps front Absent (n ∷ rest) is = refl
same_from f v w steps front (Strange at) (n ∷ rest) is = refl
same_from f v w steps front (File at) (n ∷ rest) is = refl
same_from f v w steps front (Dir at (Err e)) (n ∷ rest) is = refl
same_from f v w steps front (Dir at (Ok dir)) (n ∷ rest) is =
    same_from f v w steps (front ++ n ∷ []) (standing_in f v dir n) rest (along f v (root_of f v) dir at front n is)
    ∙ ap (λ s. standing_from f w s rest) (steps front dir n (record { at = at; stands = is }))

pub root_same : (f : Format) (lawful : IsLawful f) (v : View) (at : Path) (old bytes : List ℕ) → IsReplaced f lawful v at old → root_of f v ≡ root_of f (edited v (file_edit at bytes))
root_same f lawful v at old bytes r = ap (Dir []) (entered_alike f v (edited v (file_edit at bytes)) [] (f.root_key v) (replaced_kind f lawful v at old bytes r)
    ∙ ap (directory_with f (edited v (file_edit at bytes)) []) (lawful.root_by_key v (edited v (file_edit at bytes)) (sym (replaced_elsewhere f lawful v at old bytes r (f.key_file ∷ []) r.no_root_key))))

pub stands_same : (f : Format) (lawful : IsLawful f) (v : View) (at : Path) (old bytes : List ℕ) → IsReplaced f lawful v at old → (path : plain.Path) → standing f v path ≡ standing f (edited v (file_edit at bytes)) path
stands_same f lawful v at old bytes r path =
    same_from f v (edited v (file_edit at bytes)) (step_same f lawful v at old bytes r) [] (root_of f v) path refl
    ∙ ap (λ s. standing_from f (edited v (file_edit at bytes)) s path) (root_same f lawful v at old bytes r)

-- each path of the file opens as the new content, and all else as before
replaced_opens : (f : Format) (lawful : IsLawful f) (v : View) (at : Path) (old bytes : List ℕ) → IsReplaced f lawful v at old
    → OpensAnew f v (edited v (file_edit at bytes)) at (opened_file f.content (Some bytes))
unfolding opened
replaced_opens f lawful v at old bytes r = record {
  others = λ path apart. ap (opened_at f (edited v (file_edit at bytes))) (sym (stands_same f lawful v at old bytes r path)) ∙ by_standing path apart (standing f v path) refl;
  there = λ path file. ap (opened_at f (edited v (file_edit at bytes))) (sym (stands_same f lawful v at old bytes r path) ∙ file) ∙ ap (λ x. opened_file f.content (file_bytes x)) (brought_there v (file_edit at bytes));
  enters = λ path place dir stands. sym (stands_same f lawful v at old bytes r path) ∙ stands;
}
  where
    by_standing : (path : plain.Path) → standing f v path ≢ File at → (s : Standing) → standing f v path ≡ s → opened_at f (edited v (file_edit at bytes)) (standing f v path) ≡ opened_at f v (standing f v path)
    by_standing path apart Absent is = ap (opened_at f (edited v (file_edit at bytes))) is ∙ sym (ap (opened_at f v) is)
    by_standing path apart (Strange q) is = ap (opened_at f (edited v (file_edit at bytes))) is ∙ sym (ap (opened_at f v) is)
    by_standing path apart (Dir q d) is = ap (opened_at f (edited v (file_edit at bytes))) is ∙ sym (ap (opened_at f v) is)
    by_standing path apart (File q) is = ap (opened_at f (edited v (file_edit at bytes))) is
        ∙ ap (λ x. opened_file f.content (file_bytes x)) (replaced_elsewhere f lawful v at old bytes r q (λ here. apart (is ∙ ap File here))) ∙ sym (ap (opened_at f v) is)

-- a file that stands is replaced at its place
record IsFileEntry (f : Format) (v : View) (dir : Directory) (name : List ℕ) (at : Path) : Type 0 where
  named : is_name name ≡ true
  rest : Path
  is : at ≡ entry_at f dir name ++ rest
  item : item_at f v dir (f.stored dir.key name) ≡ FileItem rest
  file : ShowsFile v at

by_item : (f : Format) (v : View) (at : Path) (held : Bool) (item : Item) (place : Path) → standing_of f v at held item ≡ File place → (rest : Path) × (place ≡ at ++ rest) × (item ≡ FileItem rest)
by_item f v at held Nothing place e = cc
by_item f v at false (FileItem rest) place e = cc
by_item f v at true (FileItem rest) place e = let same : at ++ rest ≡ place = cc in (rest, sym same, refl)
by_item f v at false DirectoryItem place e = cc
by_item f v at true DirectoryItem place e = cc
by_item f v at held (NoItem finding) place e = cc

file_entry : (f : Format) → IsLawful f → (v : View) (dir : Directory) (name : List ℕ) (at : Path) → standing_in f v dir name ≡ File at → IsFileEntry f v dir name at
file_entry f lawful v dir name at e = by_name (is_name name) refl
  where
    by_name : (b : Bool) → is_name name ≡ b → IsFileEntry f v dir name at
    by_name false is = let absent : Absent ≡ File at = sym (standing_unnamed f v dir name is) ∙ e in cc
    by_name true is =
        let stands : standing_of f v (entry_at f dir name) (holds_full f v dir (f.stored dir.key name)) (item_at f v dir (f.stored dir.key name)) ≡ File at = sym (standing_named f v dir name is) ∙ e in
        let parts : (rest : Path) × (at ≡ entry_at f dir name ++ rest) × (item_at f v dir (f.stored dir.key name) ≡ FileItem rest)
        = by_item f v (entry_at f dir name) (holds_full f v dir (f.stored dir.key name)) (item_at f v dir (f.stored dir.key name)) at stands in
        record {
          named = is;
          rest = parts.0;
          is = parts.1;
          item = parts.2;
          file = content_there f lawful.content v (entry_at f dir name) (is_some (f.stored dir.key name).full) (holds_full f v dir (f.stored dir.key name)) (item_at f v dir (f.stored dir.key name)) at refl stands;
        }

is_replaced : (f : Format) (lawful : IsLawful f) (v : View) (path : plain.Path) (dir : Directory) (name : List ℕ) (at : Path) → HasFolders v → Leads f v path dir → (entry : IsFileEntry f v dir name at)
    → IsReplaced f lawful v at entry.file.0
is_replaced f lawful v path dir name at folders leads entry = record {
  folders = folders;
  file = entry.file.1;
  no_key = λ other_path other n leads_too same.
      let right_too : IsRight f lawful v other = reached_right f lawful v other_path other leads_too in
      lawful.content_no_key (under (entry_at f dir name) v) dir.key other.key name n entry.rest right.at right_too.at right.is_key entry.named entry.item
      (at_form ∙ sym same ∙ ap (λ p. child (child p (f.stored other.key n).name) f.key_file) right_too.form);
  no_root_key = λ same. lawful.content_no_root_key (under (entry_at f dir name) v) dir.key name entry.rest right.at right.is_key entry.named entry.item (at_form ∙ sym same);
  no_configuration = subst SparesConfiguration at_form (lawful.content_no_configuration (under (entry_at f dir name) v) dir.key name entry.rest right.at right.is_key entry.named entry.item);
  no_name = λ other_path other n leads_too named long same.
      let right_too : IsRight f lawful v other = reached_right f lawful v other_path other leads_too in
      lawful.content_no_name (under (entry_at f dir name) v) dir.key other.key name n entry.rest right.at right_too.at right.is_key entry.named entry.item long right_too.is_key named
      (at_form ∙ sym same ∙ ap (λ p. p ++ f.full_at (f.stored other.key n).name) right_too.form);
}
  where
    right : IsRight f lawful v dir
    right = reached_right f lawful v path dir leads

    at_form : child (f.folder_of (reached_right f lawful v path dir leads).at dir.key) (f.stored dir.key name).name ++ entry.rest ≡ at
    at_form = ap (λ p. child p (f.stored dir.key name).name ++ entry.rest) (sym (reached_right f lawful v path dir leads).form) ∙ sym entry.is

-- what holds where a file's content is replaced holds where a file stands
pub where_file_stands : (f : Format) (lawful : IsLawful f) (v : View) (p : plain.Path) (at : Path) (Holds : Type 0) → HasFolders v → standing f v p ≡ File at → ((old : List ℕ) → IsReplaced f lawful v at old → Holds) → Holds
where_file_stands f lawful v p at Holds folders stands holds_so = by_end (base_or_child p)
  where
    by_last : (q : Path) (a : Part) → StandsUnder f v (root_of f v) q a at → standing f v (child q a) ≡ File at → Holds
    by_last q a under_one stands_there =
        let leads : Leads f v q under_one.dir = record { at = under_one.at; stands = under_one.before } in
        let entry : IsFileEntry f v under_one.dir a at
        = file_entry f lawful v under_one.dir a at (sym (along f v (root_of f v) under_one.dir under_one.at q a under_one.before) ∙ stands_there) in
        holds_so entry.file.0 (is_replaced f lawful v q under_one.dir a at folders leads entry)

    by_end : (p ≡ []) ⊎ ((q : Path) × (a : Part) × (p ≡ child q a)) → Holds
    by_end (inl none) = let clash : root_of f v ≡ File at = ap (standing f v) (sym none) ∙ stands in cc
    by_end (inr last) =
        let there : standing f v (child last.0 last.1) ≡ File at = ap (standing f v) (sym last.2) ∙ stands in
        by_last last.0 last.1 (stands_under f v (root_of f v) last.0 last.1 at (ap place_of there)) there

pub opens_anew : (f : Format) → IsLawful f → ContentsOpenAnew f
opens_anew f lawful v p at bytes folders stands =
    where_file_stands f lawful v p at (OpensAnew f v (edited v (file_edit at bytes)) at (opened_file f.content (Some bytes))) folders stands
    (λ old r. replaced_opens f lawful v at old bytes r)

-- in an orderly vault the file is that of one path alone
pub content_replaced : (f : Format) → IsLawful f → ContentsAreReplacedAlone f
content_replaced f lawful v p at bytes orderly stands =
    let anew : OpensAnew f v (edited v (file_edit at bytes)) at (opened_file f.content (Some bytes)) = opens_anew f lawful v p at bytes orderly.folders stands in
    record {
      there = anew.there p stands;
      others = λ path apart. anew.others path (λ file. apart (own_places f lawful v orderly path p at (ap place_of file) (ap place_of stands)));
    }
