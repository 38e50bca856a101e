-- Each edit of a new item of Cryptomator keeps a vault clean.
use Rattle.std.proofs.Common.{◌≡◌, ◌≢◌, ℕ, ◌+◌, Bool, true, false, ◌&&◌, ◌||◌, List, [], ◌∷◌, ◌++◌, Ok, Err, cond, refl, sym, ap, ◌∙◌, subst, Some, None, Option, IsTrue, is_some, length, append_assoc, take, drop, arith, bytes_eq}
use Rattle.std.proofs.lemmas.Bool.{eq-eqb, or_left, or_right}
use Rattle.std.specs.List.{list_all}
use Rattle.std.proofs.lemmas.List.{take-append-drop}
use Rattle.std.proofs.lemmas.Slice.Eq.{bytes_eq-Decides}
use Rattle.vault_values.specs.declared.keys.CmKeys.{CmKeys}
use Rattle.folder_spec.specs.Path.{Part, Path, child}
use Rattle.folder_spec.proofs.Paths.{child-injective}
use Rattle.folder_spec.specs.View.{Found, NoEntry, Folder, FileOf, Special, View}
use Rattle.folder_spec.specs.Edit.{Edit, edited, file_edit, file_view, directory_edit, directory_view, folder_edit, folder_view, file_among}
use Rattle.plain_tree.specs.Names as plain
use Rattle.plain_tree.specs.Names.{is_name}
use Rattle.vault_names.specs.Base32.{is_base32}
use Rattle.vault_names.specs.Cryptomator.{cm_stored, cm_folder_of}
use Rattle.vault_spec.specs.StoredNames.{CmTexts}
use Rattle.vault_spec.specs.Format.{Directory, FileItem, DirectoryItem, Expected, Shelf, ContentFolder, Extra}
use Rattle.vault_spec.specs.Cryptomator.{CmVault, cm_format, top, id_file, content_file, full_file, directory_id, shelf_named, content_folder, is_base32_text, cm_role, file_role, folder_role, inner_role, full_files, new_file_edit, taken_entry}
use Rattle.vault_spec.specs.Standing.{Standing, Absent, Strange, File, Dir, entry_at, standing_in}
use Rattle.vault_spec.specs.Opens.{opened_file}
use Rattle.vault_spec.specs.Opens as opens
use Rattle.vault_spec.specs.Reached.{Leads}
use Rattle.vault_spec.specs.Alike.{IsOrderly}
use Rattle.vault_spec.proofs.ByteKeys.{front_plain, right_plain}
use Rattle.vault_spec.proofs.Grafts.{reached_right}
use Rattle.vault_spec.proofs.Places.{orderly_is_rooted, IsSide, side_looks, side_orderly, brought, brought_there, IsNew, new_after_side}
use Rattle.vault_spec.proofs.StaysClean.{IsBare, IsApart, KeepEach, KeepsItems, HasPlace}
use Rattle.vault_spec.proofs.Keeping.{free_is_apart, apart_on, side_keeps, BringsWhole, item_keeps, file_brings}
use Rattle.vault_spec.proofs.CmVault.{cm_lawful, no_role_of_nothing, OfEachCm}
use Rattle.vault_spec.proofs.CmAdding.{three_parts, one_more, four_parts, entry_spares, file_arrives, new_file_comes, directory_at, its_item, its_full, its_id, arrives_then, directory_stands, folder_bare, HasEmptyFolder, folder_side, folder_ready, folder_apart, shelf_side, by_shelf, new_at, folder_free, new_after_shelf}

pub shelf_text : (keys : CmKeys) → CmTexts keys → (id : List ℕ) → is_base32_text 2 (take 2 (cm_folder_of keys id)) ≡ true
shelf_text keys texts id =
    ap (λ b. b && list_all is_base32 (take 2 (cm_folder_of keys id))) (eq-eqb (length (take 2 (cm_folder_of keys id))) 2 (texts.folder_first id))
    ∙ front_plain is_base32 (take 2 (cm_folder_of keys id)) (drop 2 (cm_folder_of keys id)) (ap (list_all is_base32) (take-append-drop 2 (cm_folder_of keys id)) ∙ texts.folder_plain id)

pub folder_text : (keys : CmKeys) → CmTexts keys → (id : List ℕ) → is_base32_text 30 (drop 2 (cm_folder_of keys id)) ≡ true
folder_text keys texts id =
    ap (λ b. b && list_all is_base32 (drop 2 (cm_folder_of keys id))) (eq-eqb (length (drop 2 (cm_folder_of keys id))) 30 (texts.folder_rest id))
    ∙ right_plain is_base32 (take 2 (cm_folder_of keys id)) (drop 2 (cm_folder_of keys id)) (ap (list_all is_base32) (take-append-drop 2 (cm_folder_of keys id)) ∙ texts.folder_plain id)

-- what an entry in an item's folder is has five parts
no_inner : (vault : CmVault) (texts : CmTexts vault.keys) (v : View) (at : Path) → length at ≢ 5 → (path : plain.Path) (dir : Directory) (name : List ℕ) (x : Part) → Leads (cm_format vault) v path dir
    → child (entry_at (cm_format vault) dir name) x ≡ at → ⊥
no_inner vault texts v at not_five path dir name x leads same =
    not_five (ap length (sym same) ∙ one_more (entry_at (cm_format vault) dir name) x ∙ ap (λ n. n + 1) (one_more dir.folder (cm_stored vault.keys vault.threshold dir.key name).name)
    ∙ ap (λ n. n + 1 + 1) (three_parts vault texts v path dir leads))

no_child : (vault : CmVault) (texts : CmTexts vault.keys) (v : View) (at : Path) → length at ≢ 4 → (path : plain.Path) (dir : Directory) (x : Part) → Leads (cm_format vault) v path dir → child dir.folder x ≡ at → ⊥
no_child vault texts v at not_four path dir x leads same =
    not_four (ap length (sym same) ∙ one_more dir.folder x ∙ ap (λ n. n + 1) (three_parts vault texts v path dir leads))

-- a folder without entries has nothing below it
nothing_in : (rest : Path) (x : Part) → directory_view (rest ++ x ∷ []) ≡ NoEntry
nothing_in [] x = refl
nothing_in (a ∷ rest) x = refl

-- so below it no folder of entries comes
alone_at : (v : View) (at rest : Path) → cm_role (at ++ rest) (edited v (directory_edit at) (at ++ rest)) ≡ ContentFolder → rest ≡ []
alone_at v at [] is = refl
alone_at v at (a ∷ rest) is =
    let clash : Expected ≡ ContentFolder = sym (no_role_of_nothing (at ++ a ∷ rest)) ∙ ap (cm_role (at ++ a ∷ rest)) (sym (brought v (directory_edit at) (a ∷ rest))) ∙ is in cc

-- roles of folders
top_role : (there : Found) → cm_role (top ∷ []) there ≢ ContentFolder
top_role NoEntry is = cc
top_role Folder is = cc
top_role (FileOf bytes) is = cc
top_role Special is = cc

pub shelf_role : (a : Part) (there : Found) → cm_role (top ∷ a ∷ []) there ≢ ContentFolder
shelf_role a NoEntry is = cc
shelf_role a Folder is = by_name (is_base32_text 2 a) is
  where
    by_name : (b : Bool) → cond b Shelf Extra ≢ ContentFolder
    by_name true is = cc
    by_name false is = cc
shelf_role a (FileOf bytes) is = cc
shelf_role a Special is = cc

-- a folder of content folders has its place
shelf_place : (vault : CmVault) (texts : CmTexts vault.keys) → (v : View) (id : List ℕ) → HasPlace (cm_format vault) v (directory_edit (shelf_named (cm_folder_of vault.keys id)))
shelf_place vault texts v id = record {
  inner = λ path dir name x leads here long item there. absurd (no_inner vault texts v (shelf_named (cm_folder_of vault.keys id)) (λ z. cc) path dir name x leads here);
  role = role;
  empty = λ rest x is. ap (edited v (directory_edit (shelf_named (cm_folder_of vault.keys id)))) (append_assoc (shelf_named (cm_folder_of vault.keys id)) rest (x ∷ []))
      ∙ brought v (directory_edit (shelf_named (cm_folder_of vault.keys id))) (rest ++ x ∷ []) ∙ nothing_in rest x;
  alone = alone_at v (shelf_named (cm_folder_of vault.keys id));
  folder = λ at x is here. absurd (top_role (v (top ∷ [])) (ap (λ p. cm_role p (v p)) (sym (child-injective at (top ∷ []) x (take 2 (cm_folder_of vault.keys id)) here)) ∙ is));
}
  where
    role : (rest : Path) → cm_role (shelf_named (cm_folder_of vault.keys id) ++ rest) (edited v (directory_edit (shelf_named (cm_folder_of vault.keys id))) (shelf_named (cm_folder_of vault.keys id) ++ rest)) ≢ Extra
    role [] is =
        let shelf : cm_role (shelf_named (cm_folder_of vault.keys id)) Folder ≡ Shelf = ap (λ b. cond b Shelf Extra) (shelf_text vault.keys texts id) in
        let clash : Shelf ≡ Extra = sym shelf ∙ ap (cm_role (shelf_named (cm_folder_of vault.keys id))) (sym (brought v (directory_edit (shelf_named (cm_folder_of vault.keys id))) [])) ∙ is in cc
    role (a ∷ rest) is =
        let clash : Expected ≡ Extra = sym (no_role_of_nothing (shelf_named (cm_folder_of vault.keys id) ++ a ∷ rest))
        ∙ ap (cm_role (shelf_named (cm_folder_of vault.keys id) ++ a ∷ rest)) (sym (brought v (directory_edit (shelf_named (cm_folder_of vault.keys id))) (a ∷ rest))) ∙ is in cc

-- a content folder is one by its name
pub folder_is : (vault : CmVault) → CmTexts vault.keys → (id : List ℕ) → cm_role (content_folder vault.keys id) Folder ≡ ContentFolder
folder_is vault texts id =
    ap (λ b. cond b (folder_role (is_base32_text 30 (drop 2 (cm_folder_of vault.keys id))) ContentFolder Folder) Expected) (shelf_text vault.keys texts id)
    ∙ ap (λ b. cond b ContentFolder Extra) (folder_text vault.keys texts id)

-- and has its place
folder_place : (vault : CmVault) (texts : CmTexts vault.keys) → (v : View) (id : List ℕ) → HasPlace (cm_format vault) v (directory_edit (content_folder vault.keys id))
folder_place vault texts v id = record {
  inner = λ path dir name x leads here long item there. absurd (no_inner vault texts v (content_folder vault.keys id) (λ z. cc) path dir name x leads here);
  role = role;
  empty = λ rest x is. ap (edited v (directory_edit (content_folder vault.keys id))) (append_assoc (content_folder vault.keys id) rest (x ∷ []))
      ∙ brought v (directory_edit (content_folder vault.keys id)) (rest ++ x ∷ []) ∙ nothing_in rest x;
  alone = alone_at v (content_folder vault.keys id);
  folder = λ at x is here. absurd (shelf_role (take 2 (cm_folder_of vault.keys id)) (v (shelf_named (cm_folder_of vault.keys id)))
      (ap (λ p. cm_role p (v p)) (sym (child-injective at (shelf_named (cm_folder_of vault.keys id)) x (drop 2 (cm_folder_of vault.keys id)) here)) ∙ is));
}
  where
    role : (rest : Path) → cm_role (content_folder vault.keys id ++ rest) (edited v (directory_edit (content_folder vault.keys id)) (content_folder vault.keys id ++ rest)) ≢ Extra
    role [] is =
        let clash : ContentFolder ≡ Extra = sym (folder_is vault texts id) ∙ ap (cm_role (content_folder vault.keys id)) (sym (brought v (directory_edit (content_folder vault.keys id)) [])) ∙ is in cc
    role (a ∷ rest) is =
        let clash : Expected ≡ Extra = sym (no_role_of_nothing (content_folder vault.keys id ++ a ∷ rest))
        ∙ ap (cm_role (content_folder vault.keys id ++ a ∷ rest)) (sym (brought v (directory_edit (content_folder vault.keys id)) (a ∷ rest))) ∙ is in cc

-- an entry has four parts, and so no role of its own
entry_place : (vault : CmVault) (texts : CmTexts vault.keys) (v : View) (front : plain.Path) (dir : Directory) (name : List ℕ) (e : Edit) → IsNew (cm_format vault) v front dir name e → HasPlace (cm_format vault) v e
entry_place vault texts v front dir name e new = record {
  inner = λ path other n x leads here long item there. absurd (no_inner vault texts v e.at not_five path other n x leads here);
  role = λ rest is. let clash : Expected ≡ Extra = sym (no_role rest (edited v e (e.at ++ rest))) ∙ is in cc;
  empty = λ rest x is. let clash : Expected ≡ ContentFolder = sym (no_role rest (edited v e (e.at ++ rest))) ∙ is in cc;
  alone = λ rest is. let clash : Expected ≡ ContentFolder = sym (no_role rest (edited v e (e.at ++ rest))) ∙ is in cc;
  folder = λ at x is here. (front, dir, new.leads, sym (child-injective at dir.folder x (cm_stored vault.keys vault.threshold dir.key name).name (here ∙ sym new.place)));
}
  where
    not_five : length e.at ≢ 5
    not_five five = let four : length e.at ≡ 4 = four_parts vault texts v front dir name e new in omega (arith, five, four)

    form : e.at ≡ child (content_folder vault.keys dir.key) (cm_stored vault.keys vault.threshold dir.key name).name
    form = sym new.place ∙ ap (λ p. child p (cm_stored vault.keys vault.threshold dir.key name).name) (reached_right (cm_format vault) (cm_lawful vault texts) v front dir new.leads).form

    no_role : (rest : Path) (there : Found) → cm_role (e.at ++ rest) there ≡ Expected
    no_role rest there = ap (λ p. cm_role (p ++ rest) there) form

-- the names of these files belong
abbrev AllBelong : List (Part × List ℕ) → Part → Bool → Type 0
AllBelong [] x belongs = Unit {0}
AllBelong (f ∷ files) x belongs = (f.0 ≡ x → belongs ≡ true) × AllBelong files x belongs

-- so in a folder of them nothing is without a place
among_files : (files : List (Part × List ℕ)) (x : Part) (belongs : Bool) → AllBelong files x belongs → file_role belongs (file_among files x) ≢ Extra
among_files [] x belongs all is = cc
among_files (f ∷ files) x belongs all is = by_name (among_files files x belongs all.1) (bytes_eq f.0 x) refl is
  where
    by_name : (file_role belongs (file_among files x) ≢ Extra) → (b : Bool) → bytes_eq f.0 x ≡ b → file_role belongs (cond b (FileOf f.1) (file_among files x)) ≢ Extra
    by_name rest false e is = rest is
    by_name rest true e is =
        let clash : Expected ≡ Extra = sym (ap (λ b. cond b Expected Extra) (all.0 ((bytes_eq-Decides f.0 x).0 e))) ∙ is in cc

is_name_of : (x n : Part) → n ≡ x → bytes_eq x n ≡ true
is_name_of x n e = (bytes_eq-Decides x n).1 (sym e)

-- a folder of a file and its name holds nothing without a place
file_inside : (text bytes : List ℕ) (x : Part) → inner_role true (FileItem (content_file ∷ [])) x (folder_view ((full_file, text) ∷ (content_file, bytes) ∷ []) (x ∷ [])) ≢ Extra
file_inside text bytes x = among_files ((full_file, text) ∷ (content_file, bytes) ∷ []) x (bytes_eq x content_file || bytes_eq x full_file) (
  (λ e. or_right (bytes_eq x content_file) (bytes_eq x full_file) (is_name_of x full_file e)),
  ((λ e. or_left (bytes_eq x content_file) (bytes_eq x full_file) (is_name_of x content_file e)), record {}),
)

-- nor does a folder of a directory's id, and of its name where that is long
directory_inside : (full : Option (List ℕ)) (id : List ℕ) (x : Part) → inner_role (is_some full) DirectoryItem x (folder_view (full_files full ++ (id_file, id) ∷ []) (x ∷ [])) ≢ Extra
directory_inside None id x = among_files ((id_file, id) ∷ []) x (bytes_eq x id_file || (false && bytes_eq x full_file))
    ((λ e. or_left (bytes_eq x id_file) (false && bytes_eq x full_file) (is_name_of x id_file e)), record {})
directory_inside (Some text) id x = among_files ((full_file, text) ∷ (id_file, id) ∷ []) x (bytes_eq x id_file || (true && bytes_eq x full_file)) (
  (λ e. or_right (bytes_eq x id_file) (true && bytes_eq x full_file) (is_name_of x full_file e)),
  ((λ e. or_left (bytes_eq x id_file) (true && bytes_eq x full_file) (is_name_of x id_file e)), record {}),
)

-- a file is whole
file_whole : (vault : CmVault) (u : View) (dir : Directory) (name bytes : List ℕ) (full : Option (List ℕ)) → IsTrue (is_name name) → (cm_stored vault.keys vault.threshold dir.key name).full ≡ full
    → BringsWhole (cm_format vault) u dir name (new_file_edit (entry_at (cm_format vault) dir name) full bytes)
file_whole vault u dir name bytes None named is =
    file_brings (cm_format vault) u dir name (file_edit (entry_at (cm_format vault) dir name) bytes) [] named refl (file_arrives vault u dir name bytes None named is).full
    (ap (λ o. (cm_format vault).item (is_some o) (file_view bytes)) is)
    (λ x extra. short_inside x (ap (λ o. inner_role (is_some o) (FileItem []) x NoEntry) (sym is) ∙ extra)) refl
  where
    short_inside : (x : Part) → inner_role false (FileItem []) x NoEntry ≢ Extra
    short_inside x is = cc
file_whole vault u dir name bytes (Some text) named is =
    file_brings (cm_format vault) u dir name (folder_edit (entry_at (cm_format vault) dir name) ((full_file, text) ∷ (content_file, bytes) ∷ [])) (content_file ∷ []) named refl
    (file_arrives vault u dir name bytes (Some text) named is).full
    (ap (λ o. (cm_format vault).item (is_some o) (folder_view ((full_file, text) ∷ (content_file, bytes) ∷ []))) is)
    (λ x extra. file_inside text bytes x (ap (λ o. inner_role (is_some o) (FileItem (content_file ∷ [])) x (folder_view ((full_file, text) ∷ (content_file, bytes) ∷ []) (x ∷ []))) (sym is) ∙ extra)) refl

new_file_keeps : (vault : CmVault) (texts : CmTexts vault.keys) (v : View) (front : plain.Path) (dir : Directory) (name bytes : List ℕ)
    → IsOrderly (cm_format vault) v → Leads (cm_format vault) v front dir → IsTrue (is_name name) → taken_entry v dir (cm_stored vault.keys vault.threshold dir.key name) ≡ None
    → KeepEach (cm_format vault) (cm_lawful vault texts) v ((cm_format vault).new_file v dir (cm_stored vault.keys vault.threshold dir.key name) bytes)
new_file_keeps vault texts v front dir name bytes orderly leads named none = (
  item_keeps (cm_format vault) (cm_lawful vault texts) v front dir name (new_file_edit (entry_at (cm_format vault) dir name) (cm_stored vault.keys vault.threshold dir.key name).full bytes)
      (opened_file (cm_format vault).content (Some bytes)) orderly new
      (entry_spares vault texts v front dir name (new_file_edit (entry_at (cm_format vault) dir name) (cm_stored vault.keys vault.threshold dir.key name).full bytes) new)
      (file_arrives vault v dir name bytes (cm_stored vault.keys vault.threshold dir.key name).full named refl)
      (entry_place vault texts v front dir name (new_file_edit (entry_at (cm_format vault) dir name) (cm_stored vault.keys vault.threshold dir.key name).full bytes) new)
      (file_whole vault v dir name bytes (cm_stored vault.keys vault.threshold dir.key name).full named refl),
  record {},
)
  where
    new : IsNew (cm_format vault) v front dir name (new_file_edit (entry_at (cm_format vault) dir name) (cm_stored vault.keys vault.threshold dir.key name).full bytes)
    new = new_file_comes vault texts v front dir name bytes orderly.folders leads named none

abbrev parts_of : Directory → Standing → Path × Directory
parts_of d (Dir at (Ok dir)) = (at, dir)
parts_of d (Dir at (Err lack)) = (at, d)
parts_of d (File at) = (at, d)
parts_of d (Strange at) = (at, d)
parts_of d Absent = ([], d)

-- a directory is whole: its folder is empty, and no other has it
directory_whole : (vault : CmVault) (texts : CmTexts vault.keys) (u : View) (front : plain.Path) (dir : Directory) (name id : List ℕ) → IsNew (cm_format vault) u front dir name (directory_at vault dir name id)
    → directory_id id ≡ Some id → HasEmptyFolder u (content_folder vault.keys id) → dir.folder ≢ content_folder vault.keys id → IsApart (cm_format vault) u (content_folder vault.keys id)
    → BringsWhole (cm_format vault) u dir name (directory_at vault dir name id)
directory_whole vault texts u front dir name id new is_id ready apart alone = record {
  item = DirectoryItem;
  is = its_item (cm_stored vault.keys vault.threshold dir.key name).full id;
  is_item = λ finding is. cc;
  inside = directory_inside (cm_stored vault.keys vault.threshold dir.key name).full id;
  not_full = refl;
  unlocked = λ at lack is. let clash : Dir (entry_at (cm_format vault) dir name) (Ok (the_directory id)) ≡ Dir at (Err lack) = sym stands ∙ is in cc;
  entered = entered;
}
  where
    the_directory : List ℕ → Directory
    the_directory key = record { folder = content_folder vault.keys key; key = key }

    stands : standing_in (cm_format vault) (edited u (directory_at vault dir name id)) dir name ≡ Dir (entry_at (cm_format vault) dir name) (Ok (record { folder = content_folder vault.keys id; key = id }))
    stands = directory_stands vault u front dir name id (directory_at vault dir name id) new is_id ready (its_full vault u dir name id)
        (its_item (cm_stored vault.keys vault.threshold dir.key name).full id) (its_id (cm_stored vault.keys vault.threshold dir.key name).full id)

    bare : IsBare (cm_format vault) (edited u (directory_at vault dir name id)) (record { folder = content_folder vault.keys id; key = id })
    bare = record {
      entries = λ n named. folder_bare vault u front dir name id (directory_at vault dir name id) new ready apart (cm_stored vault.keys vault.threshold id n).name;
      others = λ x there. absurd (there (folder_bare vault u front dir name id (directory_at vault dir name id) new ready apart x));
    }

    entered : (at : Path) (d : Directory) → standing_in (cm_format vault) (edited u (directory_at vault dir name id)) dir name ≡ Dir at (Ok d)
        → (at ≡ entry_at (cm_format vault) dir name) × IsApart (cm_format vault) u d.folder × IsBare (cm_format vault) (edited u (directory_at vault dir name id)) d
    entered at d is =
        let whole : Dir (entry_at (cm_format vault) dir name) (Ok (record { folder = content_folder vault.keys id; key = id })) ≡ Dir at (Ok d) = sym stands ∙ is in
        let parts : ◌≡◌ {A = Path × Directory} (entry_at (cm_format vault) dir name, record { folder = content_folder vault.keys id; key = id }) (at, d) = ap (parts_of d) whole in (
          ap (λ (p : Path × Directory). p.0) (sym parts),
          subst (λ (x : Directory). IsApart (cm_format vault) u x.folder) (ap (λ (p : Path × Directory). p.1) parts) alone,
          subst (IsBare (cm_format vault) (edited u (directory_at vault dir name id))) (ap (λ (p : Path × Directory). p.1) parts) bare,
        )

-- the content folder and the entry, where the folder of content folders is there
keeps_after_shelf : (vault : CmVault) (texts : CmTexts vault.keys) → (w : View) (front : plain.Path) (dir : Directory) (name id : List ℕ)
    → IsOrderly (cm_format vault) w → IsNew (cm_format vault) w front dir name (directory_at vault dir name id) → directory_id id ≡ Some id
    → w (shelf_named (cm_folder_of vault.keys id)) ≡ Folder → w (content_folder vault.keys id) ≡ NoEntry
    → KeepEach (cm_format vault) (cm_lawful vault texts) w (directory_edit (content_folder vault.keys id) ∷ directory_at vault dir name id ∷ [])
keeps_after_shelf vault texts w front dir name id orderly new is_id shelf free = (
  side_keeps (cm_format vault) (cm_lawful vault texts) w (directory_edit (content_folder vault.keys id)) orderly side
      (folder_place vault texts w id) (λ path other x leads here. absurd (no_child vault texts w (content_folder vault.keys id) (λ z. cc) path other x leads here)),
  (
    item_keeps (cm_format vault) (cm_lawful vault texts) (edited w (directory_edit (content_folder vault.keys id))) front dir name (directory_at vault dir name id) opens.Directory
        (side_orderly (cm_format vault) (cm_lawful vault texts) w (directory_edit (content_folder vault.keys id)) orderly side) new_then
        (entry_spares vault texts (edited w (directory_edit (content_folder vault.keys id))) front dir name (directory_at vault dir name id) new_then)
        (arrives_then vault texts (edited w (directory_edit (content_folder vault.keys id))) front dir name id new_then is_id (folder_ready vault w id) apart)
        (entry_place vault texts (edited w (directory_edit (content_folder vault.keys id))) front dir name (directory_at vault dir name id) new_then)
        (directory_whole vault texts (edited w (directory_edit (content_folder vault.keys id))) front dir name id new_then is_id (folder_ready vault w id) apart
        (apart_on (cm_format vault) w (edited w (directory_edit (content_folder vault.keys id))) (content_folder vault.keys id)
        (side_looks (cm_format vault) (cm_lawful vault texts) w (directory_edit (content_folder vault.keys id)) orderly side)
        (free_is_apart (cm_format vault) w (content_folder vault.keys id) free))),
    record {},
  ),
)
  where
    side : IsSide (cm_format vault) (cm_lawful vault texts) w (directory_edit (content_folder vault.keys id))
    side = folder_side vault texts w id new.rooted shelf free

    apart : dir.folder ≢ content_folder vault.keys id
    apart = folder_apart vault texts w front dir id new.leads free

    new_then : IsNew (cm_format vault) (edited w (directory_edit (content_folder vault.keys id))) front dir name (directory_at vault dir name id)
    new_then = new_after_side (cm_format vault) (cm_lawful vault texts) w (directory_edit (content_folder vault.keys id)) front dir name (directory_at vault dir name id) side new

new_directory_keeps : (vault : CmVault) (texts : CmTexts vault.keys) → (v : View) (front : plain.Path) (dir : Directory) (name id : List ℕ)
    → IsOrderly (cm_format vault) v → Leads (cm_format vault) v front dir → IsTrue (is_name name) → directory_id id ≡ Some id
    → (cm_format vault).taken_for_directory v dir (cm_stored vault.keys vault.threshold dir.key name) id ≡ None
    → KeepEach (cm_format vault) (cm_lawful vault texts) v ((cm_format vault).new_directory v dir (cm_stored vault.keys vault.threshold dir.key name) id)
new_directory_keeps vault texts v front dir name id orderly leads named is_id none =
    by_shelf vault v dir name id (KeepEach (cm_format vault) (cm_lawful vault texts) v) none (keeps_after_shelf vault texts v front dir name id orderly new is_id)
    (λ free. (
      side_keeps (cm_format vault) (cm_lawful vault texts) v (directory_edit (shelf_named (cm_folder_of vault.keys id))) orderly (side free) (shelf_place vault texts v id)
          (λ path other x leads_too here. absurd (no_child vault texts v (shelf_named (cm_folder_of vault.keys id)) (λ z. cc) path other x leads_too here)),
      keeps_after_shelf vault texts (edited v (directory_edit (shelf_named (cm_folder_of vault.keys id)))) front dir name id
          (side_orderly (cm_format vault) (cm_lawful vault texts) v (directory_edit (shelf_named (cm_folder_of vault.keys id))) orderly (side free))
          (new_after_shelf vault texts v front dir name id new free) is_id (brought_there v (directory_edit (shelf_named (cm_folder_of vault.keys id)))) (folder_free vault v id),
    ))
  where
    new : IsNew (cm_format vault) v front dir name (directory_at vault dir name id)
    new = new_at vault texts v front dir name id orderly.folders leads named none

    side : v (shelf_named (cm_folder_of vault.keys id)) ≡ NoEntry → IsSide (cm_format vault) (cm_lawful vault texts) v (directory_edit (shelf_named (cm_folder_of vault.keys id)))
    side = shelf_side vault texts v front dir id (orderly_is_rooted (cm_format vault) v orderly) leads

pub cm_keeps : OfEachCm KeepsItems
cm_keeps vault texts = record { file = new_file_keeps vault texts; directory = new_directory_keeps vault texts }
