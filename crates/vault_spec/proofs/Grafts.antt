-- What stands in a vault once something comes to stand at a free place.
use Rattle.std.specs.Option.{option_and_then}
use Rattle.std.proofs.Common.{◌≡◌, ◌≢◌, ◌⊎◌, ℕ, Bool, true, false, List, [], ◌∷◌, ◌++◌, Ok, Err, Result, cond, refl, sym, ap, ◌∙◌, inl, inr, subst, append_assoc, append-nil, Some, None, Option, IsTrue, is_some}
use Rattle.folder_spec.specs.Path.{Part, Path, child}
use Rattle.folder_spec.specs.View.{Found, NoEntry, Folder, FileOf, Special, View, kind_found}
use Rattle.folder_spec.specs.Seen.{under, ShowsFile}
use Rattle.folder_spec.specs.Edit.{Edit, edited}
use Rattle.folder_spec.proofs.Edits.{off_edit}
use Rattle.folder_spec.proofs.Paths.{begins_or_not, child_begins}
use Rattle.plain_tree.specs.Names as plain
use Rattle.plain_tree.specs.Names.{is_name}
use Rattle.vault_names.specs.declared.entry.Stored.{Stored}
use Rattle.vault_spec.specs.declared.Lack.{Lack}
use Rattle.vault_spec.specs.declared.Lack.TheVariants.{NoDirKey, NoFolder}
use Rattle.vault_spec.specs.Format.{Format, Directory, Item, Nothing, FileItem, DirectoryItem, NoItem, is_folder, file_bytes, key_of}
use Rattle.vault_spec.specs.Standing.{Standing, Absent, Strange, File, Dir, root_of, directory_with, entry_at, is_file_of, holds, holds_full, item_at, standing_of, standing_in, standing_from}
use Rattle.vault_spec.specs.Reached.{Leads}
use Rattle.vault_spec.specs.Alike.{HasNoItem, IsSame, HasFolders}
use Rattle.vault_spec.proofs.Lawful.{IsLawful}

is_folder_there : (x : Found) → is_folder x ≡ true → x ≡ Folder
is_folder_there Folder e = refl
is_folder_there NoEntry e = cc
is_folder_there (FileOf bytes) e = cc
is_folder_there Special e = cc

-- where a directory is entered, it has its key and its folder, which is there
pub record IsEntered (f : Format) (v : View) (at : Path) (key : Option (List ℕ)) (dir : Directory) : Type 0 where
  pub its_key : key ≡ Some dir.key
  pub there : v dir.folder ≡ Folder
  pub form : dir.folder ≡ f.folder_of at dir.key

pub is_entered : (f : Format) (v : View) (at : Path) (key : Option (List ℕ)) (dir : Directory) → directory_with f v at key ≡ Ok dir → IsEntered f v at key dir
is_entered f v at None dir e = cc
is_entered f v at (Some key) dir e =
    elim (is_folder (v (f.folder_of at key))) as (λ b. is_folder (v (f.folder_of at key)) ≡ b → cond b (Ok (the_directory key)) (Err NoFolder) ≡ Ok dir → IsEntered f v at (Some key) dir) [
      | true ↦ λ there is. let same : the_directory key ≡ dir = cc in
          subst (IsEntered f v at (Some key)) same (record { its_key = refl; there = is_folder_there (v (f.folder_of at key)) there; form = refl })
      | false ↦ λ there is. cc
    ] refl e
  where
    the_directory : List ℕ → Directory
    the_directory k = record { folder = f.folder_of at k; key = k }

-- a directory that stands where an entry is, is that of the entry
standing_directory : (f : Format) (v : View) (at : Path) (named : Bool) (item : Item) (a : Path) (d : Result Directory Lack)
    → standing_of f v at named item ≡ Dir a d → directory_with f v at (key_of f (under at v)) ≡ d
standing_directory f v at named Nothing a d e = cc
standing_directory f v at false (FileItem rest) a d e = cc
standing_directory f v at true (FileItem rest) a d e = cc
standing_directory f v at false DirectoryItem a d e = cc
standing_directory f v at true DirectoryItem a d e = cc
standing_directory f v at named (NoItem finding) a d e = cc

-- the folder of a reached directory is there and that of its key, and the key is right
pub record IsRight (f : Format) (lawful : IsLawful f) (v : View) (dir : Directory) : Type 0 where
  pub there : v dir.folder ≡ Folder
  pub is_key : IsTrue (lawful.is_key dir.key)
  pub at : Path
  pub form : dir.folder ≡ f.folder_of at dir.key
  pub its_key : (key_of f (under at v) ≡ Some dir.key) ⊎ ((at ≡ []) × (f.root_key v ≡ Some dir.key))

-- what stands is right, where it is a directory
StandsRight : (f : Format) → IsLawful f → View → Standing → Type 0
StandsRight f lawful v s = (at : Path) (dir : Directory) → s ≡ Dir at (Ok dir) → IsRight f lawful v dir

step_right : (f : Format) (lawful : IsLawful f) (v : View) (dir : Directory) (name : List ℕ) → StandsRight f lawful v (standing_in f v dir name)
unfolding standing_in StandsRight
step_right f lawful v dir name at d e =
    elim (is_name name) as (λ b. cond b (stands_there (f.stored dir.key name)) Absent ≡ Dir at (Ok d) → IsRight f lawful v d) [
      | true ↦ λ is.
          let entered : IsEntered f v (entry_at f dir name) (key_of f (under (entry_at f dir name) v)) d
          = is_entered f v (entry_at f dir name) (key_of f (under (entry_at f dir name) v)) d
          (standing_directory f v (entry_at f dir name) (holds_full f v dir (f.stored dir.key name)) (item_at f v dir (f.stored dir.key name)) at (Ok d) is) in
          record {
            there = entered.there;
            is_key = lawful.entry_key (under (entry_at f dir name) v) d.key entered.its_key;
            at = entry_at f dir name;
            form = entered.form;
            its_key = inl entered.its_key;
          }
      | false ↦ λ is. cc
    ] e
  where
    stands_there : Stored → Standing
    stands_there s = standing_of f v (child dir.folder s.name) (holds_full f v dir s) (item_at f v dir s)

behind_right : (f : Format) (lawful : IsLawful f) (v : View) (here : Standing) (rest : plain.Path) → StandsRight f lawful v here → StandsRight f lawful v (standing_from f v here rest)
unfolding StandsRight
behind_right f lawful v here [] is = is
behind_right f lawful v (Dir at (Ok dir)) (n ∷ rest) is = behind_right f lawful v (standing_in f v dir n) rest (step_right f lawful v dir n)
behind_right f lawful v (Dir at (Err e)) (n ∷ rest) is = λ a d e. cc
behind_right f lawful v (File at) (n ∷ rest) is = λ a d e. cc
behind_right f lawful v (Strange at) (n ∷ rest) is = λ a d e. cc
behind_right f lawful v Absent (n ∷ rest) is = λ a d e. cc

-- a directory that is reached is right
pub reached_right : (f : Format) (lawful : IsLawful f) (v : View) (path : plain.Path) (dir : Directory) → Leads f v path dir → IsRight f lawful v dir
unfolding StandsRight
reached_right f lawful v path dir leads = behind_right f lawful v (root_of f v) path root_right leads.at dir leads.stands
  where
    root_right : (at : Path) (d : Directory) → root_of f v ≡ Dir at (Ok d) → IsRight f lawful v d
    root_right at d e =
        let entered : IsEntered f v [] (f.root_key v) d = is_entered f v [] (f.root_key v) d cc in
        record { there = entered.there; is_key = lawful.root_key v d.key entered.its_key; at = []; form = entered.form; its_key = inr (refl, entered.its_key) }

-- nothing stands below a place where nothing stands
pub nothing_below : (v : View) → HasFolders v → (at rest : Path) → v at ≡ NoEntry → v (at ++ rest) ≡ NoEntry
nothing_below v folders at [] free = ap v (append-nil at) ∙ free
nothing_below v folders at (a ∷ rest) free =
    ap v (sym (append_assoc at (a ∷ []) rest)) ∙ nothing_below v folders (child at a) rest (none (v (child at a)) refl)
  where
    none : (x : Found) → v (child at a) ≡ x → v (child at a) ≡ NoEntry
    none NoEntry is = is
    none Folder is = let up : v at ≡ Folder = folders at a (λ e. cc) in cc
    none (FileOf bytes) is = let up : v at ≡ Folder = folders at a (λ e. cc) in cc
    none Special is = let up : v at ≡ Folder = folders at a (λ e. cc) in cc

-- at a free place it leaves all that stands
pub edited_adds : (v : View) (e : Edit) → HasFolders v → v e.at ≡ NoEntry → (q : Path) → v q ≢ NoEntry → edited v e q ≡ v q
edited_adds v e folders free q there = elim (begins_or_not e.at q) [
  | inl k ↦ absurd (there (ap v k.1 ∙ nothing_below v folders e.at k.0 free))
  | inr none ↦ off_edit v e q none
]

-- and all entries but its own of folders that stand
pub edited_entry : (v : View) (e : Edit) → HasFolders v → v e.at ≡ NoEntry → (up : Path) (a : Part) → v up ≢ NoEntry → child up a ≢ e.at → edited v e (child up a) ≡ v (child up a)
edited_entry v e folders free up a there apart = elim (begins_or_not e.at (child up a)) [
  | inl k ↦ elim (child_begins e.at up a k.0 k.1) [
    | inl same ↦ absurd (apart same)
    | inr above ↦ absurd (there (ap v above.1 ∙ nothing_below v folders e.at above.0 free))
  ]
  | inr none ↦ off_edit v e (child up a) none
]

-- what stands under a name, and under what is none
pub standing_named : (f : Format) (v : View) (dir : Directory) (name : List ℕ) → is_name name ≡ true
    → standing_in f v dir name ≡ standing_of f v (entry_at f dir name) (holds_full f v dir (f.stored dir.key name)) (item_at f v dir (f.stored dir.key name))
unfolding standing_in
standing_named f v dir name is =
    ap (λ b. cond b (standing_of f v (entry_at f dir name) (holds_full f v dir (f.stored dir.key name)) (item_at f v dir (f.stored dir.key name))) Absent) is

pub standing_unnamed : (f : Format) (v : View) (dir : Directory) (name : List ℕ) → is_name name ≡ false → standing_in f v dir name ≡ Absent
unfolding standing_in
standing_unnamed f v dir name is =
    ap (λ b. cond b (standing_of f v (entry_at f dir name) (holds_full f v dir (f.stored dir.key name)) (item_at f v dir (f.stored dir.key name))) Absent) is

-- no item stands at an entry where nothing is
pub none_stands : (f : Format) → IsLawful f → (v : View) (dir : Directory) (name : List ℕ) → v (entry_at f dir name) ≡ NoEntry → HasNoItem (standing_in f v dir name)
none_stands f lawful v dir name free = by_name (is_name name) refl
  where
    by_name : (b : Bool) → is_name name ≡ b → HasNoItem (standing_in f v dir name)
    by_name false is = subst HasNoItem (sym (standing_unnamed f v dir name is)) (record {})
    by_name true is = subst HasNoItem (sym (standing_named f v dir name is
        ∙ ap (standing_of f v (entry_at f dir name) (holds_full f v dir (f.stored dir.key name)))
        (lawful.none (is_some (f.stored dir.key name).full) (under (entry_at f dir name) v) (ap v (append-nil (entry_at f dir name)) ∙ free)))) (record {})

-- Nothing comes to stand at the entry of a name that is there, at its marks, or at its long-name file.
pub record SparesEntry (f : Format) (lawful : IsLawful f) (v : View) (at : Path) (dir : Directory) (name : List ℕ) : Type 0 where
  pub marks : (m : Part) → IsTrue (lawful.marks m) → child (entry_at f dir name) m ≢ at
  pub full : is_some (f.stored dir.key name).full ≡ true → dir.folder ++ f.full_at (f.stored dir.key name).name ≢ at

pub holds_by : (v w : View) (at : Path) (full : Option (List ℕ)) → (is_some full ≡ true → v at ≡ w at) → holds v at full ≡ holds w at full
holds_by v w at None same = refl
holds_by v w at (Some text) same = ap (λ x. is_file_of text (file_bytes x)) (same refl)

-- what stands at an entry by its item, where its directory is the same
pub same_standing : (f : Format) (v w : View) (at : Path) (named : Bool) (item : Item)
    → (item ≡ DirectoryItem → named ≡ true → directory_with f v at (key_of f (under at v)) ≡ directory_with f w at (key_of f (under at w)))
    → standing_of f v at named item ≡ standing_of f w at named item
same_standing f v w at named Nothing same = refl
same_standing f v w at false (FileItem rest) same = refl
same_standing f v w at true (FileItem rest) same = refl
same_standing f v w at false DirectoryItem same = refl
same_standing f v w at true DirectoryItem same = ap (Dir at) (same refl refl)
same_standing f v w at named (NoItem finding) same = refl

-- a directory that is entered is the same where what stands stays
pub same_directory : (f : Format) (v w : View) (at : Path) (key : Option (List ℕ)) → ((q : Path) → v q ≢ NoEntry → w q ≡ v q)
    → ((lack : Lack) → directory_with f v at key ≢ Err lack) → directory_with f v at key ≡ directory_with f w at key
same_directory f v w at None stays entered = absurd (entered NoDirKey refl)
same_directory f v w at (Some key) stays entered = ap by_folder (sym (stays (f.folder_of at key) (λ none. entered NoFolder (ap by_folder none))))
  where
    by_folder : Found → Result Directory Lack
    by_folder x = cond (is_folder x) (Ok (record { folder = f.folder_of at key; key = key })) (Err NoFolder)

-- the content of a file that stands is there, where that of an item is
pub content_there : (f : Format) → ((long : Bool) (v : View) (rest : Path) → f.item long v ≡ FileItem rest → ShowsFile v rest) → (v : View) (at : Path) (long named : Bool) (item : Item) (file : Path) → f.item long (under at v) ≡ item
    → standing_of f v at named item ≡ File file → ShowsFile v file
content_there f there v at long named Nothing file is e = cc
content_there f there v at long false (FileItem rest) file is e = cc
content_there f there v at long true (FileItem rest) file is e =
    let same : at ++ rest ≡ file = cc in subst (ShowsFile v) same (there long (under at v) rest is)
content_there f there v at long false DirectoryItem file is e = cc
content_there f there v at long true DirectoryItem file is e = cc
content_there f there v at long named (NoItem finding) file is e = cc

-- an entry as it was: what it is, its key, and whether its long-name file is right
pub record EntryStays (f : Format) (v w : View) (dir : Directory) (s : Stored) : Type 0 where
  pub item : item_at f v dir s ≡ item_at f w dir s
  pub key : key_of f (under (child dir.folder s.name) v) ≡ key_of f (under (child dir.folder s.name) w)
  pub full : holds_full f v dir s ≡ holds_full f w dir s

-- an entry that is there and spared is as it was
pub entry_stays : (f : Format) (lawful : IsLawful f) (v : View) (e : Edit) (path : plain.Path) (dir : Directory) (name : List ℕ)
    → HasFolders v → v e.at ≡ NoEntry → Leads f v path dir → v (entry_at f dir name) ≢ NoEntry → SparesEntry f lawful v e.at dir name
    → EntryStays f v (edited v e) dir (f.stored dir.key name)
entry_stays f lawful v e path dir name folders free leads there spared = record { item = items; key = keys; full = fulls }
  where
    entry_same : v (entry_at f dir name ++ []) ≡ edited v e (entry_at f dir name ++ [])
    entry_same = sym (edited_adds v e folders free (entry_at f dir name ++ []) (λ none. there (ap v (sym (append-nil (entry_at f dir name))) ∙ none)))

    mark_same : (m : Part) → IsTrue (lawful.marks m) → v (child (entry_at f dir name) m) ≡ edited v e (child (entry_at f dir name) m)
    mark_same m is = sym (edited_entry v e folders free (entry_at f dir name) m there (spared.marks m is))

    items : item_at f v dir (f.stored dir.key name) ≡ item_at f (edited v e) dir (f.stored dir.key name)
    items = lawful.item_by_kinds (is_some (f.stored dir.key name).full) (under (entry_at f dir name) v) (under (entry_at f dir name) (edited v e)) (ap kind_found entry_same) (λ m is. ap kind_found (mark_same m is))

    keys : key_of f (under (entry_at f dir name) v) ≡ key_of f (under (entry_at f dir name) (edited v e))
    keys = ap (λ x. option_and_then f.key_in (file_bytes x)) (mark_same f.key_file lawful.key_is_mark)

    full_same : is_some (f.stored dir.key name).full ≡ true → v (dir.folder ++ f.full_at (f.stored dir.key name).name) ≡ edited v e (dir.folder ++ f.full_at (f.stored dir.key name).name)
    full_same long = elim (lawful.full_place (f.stored dir.key name).name) [
      | inl beside ↦
          let is : dir.folder ++ f.full_at (f.stored dir.key name).name ≡ child dir.folder beside.0 = ap (λ r. dir.folder ++ r) beside.1 in
          subst (λ p. v p ≡ edited v e p) (sym is) (sym (edited_entry v e folders free dir.folder beside.0
          (λ none. let folder : v dir.folder ≡ Folder = (reached_right f lawful v path dir leads).there in cc) (λ z. spared.full long (is ∙ z))))
      | inr inside ↦
          let is : dir.folder ++ f.full_at (f.stored dir.key name).name ≡ child (entry_at f dir name) inside.0
          = ap (λ r. dir.folder ++ r) inside.1 ∙ sym (append_assoc dir.folder ((f.stored dir.key name).name ∷ []) (inside.0 ∷ [])) in
          subst (λ p. v p ≡ edited v e p) (sym is) (sym (edited_entry v e folders free (entry_at f dir name) inside.0 there (λ z. spared.full long (is ∙ z))))
    ]

    fulls : holds_full f v dir (f.stored dir.key name) ≡ holds_full f (edited v e) dir (f.stored dir.key name)
    fulls = holds_by v (edited v e) (dir.folder ++ f.full_at (f.stored dir.key name).name) (f.stored dir.key name).full full_same

-- where an entry is there and spared, what stands there stays, unless it is a directory that can't be entered
pub stands_on : (f : Format) (lawful : IsLawful f) (v : View) (e : Edit) (path : plain.Path) (dir : Directory) (name : List ℕ)
    → HasFolders v → ((at : Path) (lack : Lack) → standing_in f v dir name ≢ Dir at (Err lack)) → v e.at ≡ NoEntry → Leads f v path dir → v (entry_at f dir name) ≢ NoEntry → SparesEntry f lawful v e.at dir name
    → IsSame v (edited v e) (standing_in f v dir name) (standing_in f (edited v e) dir name)
stands_on f lawful v e path dir name folders entered free leads there spared = by_name (is_name name) refl
  where
    as_was : EntryStays f v (edited v e) dir (f.stored dir.key name)
    as_was = entry_stays f lawful v e path dir name folders free leads there spared

    stays : (q : Path) → v q ≢ NoEntry → edited v e q ≡ v q
    stays = edited_adds v e folders free

    stays_entered : is_name name ≡ true → item_at f v dir (f.stored dir.key name) ≡ DirectoryItem → holds_full f v dir (f.stored dir.key name) ≡ true
        → (lack : Lack) → directory_with f v (entry_at f dir name) (key_of f (under (entry_at f dir name) v)) ≢ Err lack
    stays_entered named item holds lack locked = entered (entry_at f dir name) lack
        (standing_named f v dir name named ∙ ap (λ b. standing_of f v (entry_at f dir name) b (item_at f v dir (f.stored dir.key name))) holds
        ∙ ap (standing_of f v (entry_at f dir name) true) item ∙ ap (Dir (entry_at f dir name)) locked)

    standings : is_name name ≡ true → standing_in f v dir name ≡ standing_in f (edited v e) dir name
    standings named =
        standing_named f v dir name named
        ∙ same_standing f v (edited v e) (entry_at f dir name) (holds_full f v dir (f.stored dir.key name)) (item_at f v dir (f.stored dir.key name))
        (λ item holds.
        same_directory f v (edited v e) (entry_at f dir name) (key_of f (under (entry_at f dir name) v)) stays (stays_entered named item holds)
        ∙ ap (directory_with f (edited v e) (entry_at f dir name)) as_was.key)
        ∙ ap (λ b. standing_of f (edited v e) (entry_at f dir name) b (item_at f v dir (f.stored dir.key name))) as_was.full
        ∙ ap (standing_of f (edited v e) (entry_at f dir name) (holds_full f (edited v e) dir (f.stored dir.key name))) as_was.item
        ∙ sym (standing_named f (edited v e) dir name named)

    not_none : {q : Path} → ShowsFile v q → v q ≢ NoEntry
    not_none file none = let clash : FileOf file.0 ≡ NoEntry = sym file.1 ∙ none in cc

    by_name : (b : Bool) → is_name name ≡ b → IsSame v (edited v e) (standing_in f v dir name) (standing_in f (edited v e) dir name)
    by_name false is = record {
      stands = standing_unnamed f v dir name is ∙ sym (standing_unnamed f (edited v e) dir name is);
      bytes = λ at file. let absent : Absent ≡ File at = sym (standing_unnamed f v dir name is) ∙ file in cc;
    }
    by_name true is = record {
      stands = standings is;
      bytes = λ at file. sym (stays at (not_none (content_there f lawful.content v (entry_at f dir name) (is_some (f.stored dir.key name).full)
          (holds_full f v dir (f.stored dir.key name)) (item_at f v dir (f.stored dir.key name)) at refl (sym (standing_named f v dir name is) ∙ file))));
    }
