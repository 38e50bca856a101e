-- Each edit of a new item of gocryptfs keeps a vault clean.
use Rattle.std.proofs.Common.{◌≡◌, ◌≢◌, ℕ, Bool, true, false, ◌||◌, List, [], ◌∷◌, ◌++◌, Ok, Err, cond, refl, sym, ap, ◌∙◌, subst, Some, None, IsTrue, is_some, bytes_eq}
use Rattle.std.proofs.lemmas.Bool.{or_right}
use Rattle.std.proofs.lemmas.Slice.Eq.{bytes_eq-Decides}
use Rattle.folder_spec.specs.Path.{Part, Path, child}
use Rattle.folder_spec.specs.View.{NoEntry, FileOf, View}
use Rattle.folder_spec.specs.Edit.{Edit, edited, file_edit, file_view, folder_edit, folder_view}
use Rattle.vault_values.specs.declared.keys.GoKeys.{GoKeys}
use Rattle.plain_tree.specs.Names as plain
use Rattle.plain_tree.specs.Names.{is_name}
use Rattle.vault_names.specs.Gocryptfs.{long_name, stored}
use Rattle.vault_names.specs.declared.entry.Stored.{Stored}
use Rattle.vault_spec.specs.StoredNames.{GoTexts}
use Rattle.vault_spec.specs.Format.{Directory, DirectoryItem}
use Rattle.vault_spec.specs.Gocryptfs.{key_file, full_name, is_full_name, is_fixed_name, directory_key, go_format, go_taken, full_edits}
use Rattle.vault_spec.specs.Standing.{Dir, entry_at, holds_full, standing_in}
use Rattle.vault_spec.specs.Opens.{Opened, opened_file}
use Rattle.vault_spec.specs.Opens as opens
use Rattle.vault_spec.specs.Reached.{Leads}
use Rattle.vault_spec.specs.Findings.{Belongs}
use Rattle.vault_spec.specs.Alike.{IsOrderly}
use Rattle.vault_spec.proofs.Entries.{long_entry}
use Rattle.vault_spec.proofs.PathEnds.{child-both}
use Rattle.vault_spec.proofs.Places.{brought_there, IsSide, side_orderly, IsNew, new_after_side}
use Rattle.vault_spec.proofs.StaysClean.{IsBare, IsSideFile, IsApart, KeepsClean, KeepEach, KeepsItems, HasPlace}
use Rattle.vault_spec.proofs.Keeping.{free_is_apart, side_keeps, BringsWhole, item_keeps, file_brings}
use Rattle.vault_spec.proofs.GoNames.{full_is_full, name_is_not_full}
use Rattle.vault_spec.proofs.GoVault.{go_lawful}
use Rattle.vault_spec.proofs.GoAdding.{full_place, IsOfText, of_text, long_is, entry_spares, ArrivesAnywhere, still_held, now_held, full_side, by_edits, is_new, file_arrives, directory_stands, directory_arrives, brought_here, no_entries}

-- in gocryptfs nothing is without a place but among entries
go_place : (keys : GoKeys) (v : View) (e : Edit) → HasPlace (go_format keys) v e
go_place keys v e = record {
  inner = λ path dir name x leads here long item there extra. cc;
  role = λ rest extra. cc;
  empty = λ rest x is. cc;
  alone = λ rest is. cc;
  folder = λ at x is here. cc;
}

-- a long-name file belongs beside its entry, with its text
full_belongs : (texts : GoTexts) (keys : GoKeys) (v : View) (front : plain.Path) (dir : Directory) (name : List ℕ) (e : Edit) (text : List ℕ)
    → IsNew (go_format keys) v front dir name e → (stored keys.names dir.key name).full ≡ Some text
    → IsSideFile (go_format keys) (edited v (file_edit (full_place dir (stored keys.names dir.key name)) text)) dir (full_name (stored keys.names dir.key name).name)
full_belongs texts keys v front dir name e text new is = record {
  belongs = record { file = (text, brought_there v (file_edit (full_place dir (stored keys.names dir.key name)) text)); name = belongs_by_name };
  right = λ _. (
    (stored keys.names dir.key name).name,
    record {
      name = name;
      of = record { named = new.named; stores = refl; full = now_held keys v dir name text (file_edit (full_place dir (stored keys.names dir.key name)) text) is refl refl };
      long = ap is_some is;
      beside = refl;
    },
  );
}
  where
    is_long : (t : List ℕ) × (stored keys.names dir.key name ≡ long_entry long_name t)
    is_long = long_is (stored keys.names dir.key name) (of_text texts keys v front dir name new.leads new.named) (ap is_some is)

    full : is_full_name (full_name (stored keys.names dir.key name).name) ≡ true
    full = ap (λ (s : Stored). is_full_name (full_name s.name)) is_long.1 ∙ full_is_full is_long.0 texts

    belongs_by_name : (is_fixed_name dir.folder (full_name (stored keys.names dir.key name).name) || is_full_name (full_name (stored keys.names dir.key name).name)) ≡ true
    belongs_by_name = or_right (is_fixed_name dir.folder (full_name (stored keys.names dir.key name).name)) (is_full_name (full_name (stored keys.names dir.key name).name)) full

-- the last edit brings a whole item
abbrev WholeAnywhere : GoKeys → Directory → List ℕ → Edit → Type 0
WholeAnywhere keys dir name e = (u : View) (front : plain.Path) → IsNew (go_format keys) u front dir name e
    → holds_full (go_format keys) (edited u e) dir (stored keys.names dir.key name) ≡ true → BringsWhole (go_format keys) u dir name e

-- each edit of an item that is new comes so
new_keeps : (texts : GoTexts) (keys : GoKeys) (v : View) (front : plain.Path) (dir : Directory) (name : List ℕ) (e : Edit) (item : Opened)
    → IsOrderly (go_format keys) v → Leads (go_format keys) v front dir → IsTrue (is_name name) → entry_at (go_format keys) dir name ≡ e.at
    → ArrivesAnywhere keys dir name e item → WholeAnywhere keys dir name e → go_taken v dir (stored keys.names dir.key name) ≡ None
    → KeepEach (go_format keys) (go_lawful texts keys) v (full_edits v dir (stored keys.names dir.key name) ++ e ∷ [])
new_keeps texts keys v front dir name e item orderly leads named place arrives whole none =
    by_edits keys v dir name e (KeepEach (go_format keys) (go_lawful texts keys) v) none (λ held. (last v orderly new (still_held keys v front dir name e new held), record {})) in_turn
  where
    new : IsNew (go_format keys) v front dir name e
    new = is_new texts keys v front dir name e orderly.folders leads named place none

    last : (u : View) → IsOrderly (go_format keys) u → IsNew (go_format keys) u front dir name e → holds_full (go_format keys) (edited u e) dir (stored keys.names dir.key name) ≡ true
        → KeepsClean (go_format keys) (go_lawful texts keys) u e
    last u orderly_so is_so held =
        item_keeps (go_format keys) (go_lawful texts keys) u front dir name e item orderly_so is_so (entry_spares texts keys u front dir name e is_so) (arrives u held) (go_place keys u e) (whole u front is_so held)

    in_turn : (text : List ℕ) → (stored keys.names dir.key name).full ≡ Some text → v (full_place dir (stored keys.names dir.key name)) ≡ NoEntry
        → KeepEach (go_format keys) (go_lawful texts keys) v (file_edit (full_place dir (stored keys.names dir.key name)) text ∷ e ∷ [])
    in_turn text is free =
        let side : IsSide (go_format keys) (go_lawful texts keys) v (file_edit (full_place dir (stored keys.names dir.key name)) text)
        = full_side texts keys v front dir name e text new is free in
        let new_then : IsNew (go_format keys) (edited v (file_edit (full_place dir (stored keys.names dir.key name)) text)) front dir name e
        = new_after_side (go_format keys) (go_lawful texts keys) v (file_edit (full_place dir (stored keys.names dir.key name)) text) front dir name e side new in (
          side_keeps (go_format keys) (go_lawful texts keys) v (file_edit (full_place dir (stored keys.names dir.key name)) text) orderly side
              (go_place keys v (file_edit (full_place dir (stored keys.names dir.key name)) text)) (placed text is),
          (
            last (edited v (file_edit (full_place dir (stored keys.names dir.key name)) text))
                (side_orderly (go_format keys) (go_lawful texts keys) v (file_edit (full_place dir (stored keys.names dir.key name)) text) orderly side) new_then
                (still_held keys (edited v (file_edit (full_place dir (stored keys.names dir.key name)) text)) front dir name e new_then
                (now_held keys v dir name text (file_edit (full_place dir (stored keys.names dir.key name)) text) is refl refl)),
            record {},
          ),
        )
      where
        placed : (text : List ℕ) → (stored keys.names dir.key name).full ≡ Some text → (path : plain.Path) (other : Directory) (x : Part) → Leads (go_format keys) v path other
            → child other.folder x ≡ full_place dir (stored keys.names dir.key name)
            → IsSideFile (go_format keys) (edited v (file_edit (full_place dir (stored keys.names dir.key name)) text)) other x
        placed text is path other x leads_too here =
            let both : (other.folder ≡ dir.folder) × (x ≡ full_name (stored keys.names dir.key name).name)
            = child-both other.folder dir.folder x (full_name (stored keys.names dir.key name).name) here in
            let one : other ≡ dir = orderly.own_folder other dir (path, leads_too) (front, leads) both.0 in
            subst (λ d. IsSideFile (go_format keys) (edited v (file_edit (full_place dir (stored keys.names dir.key name)) text)) d x) (sym one)
            (subst (IsSideFile (go_format keys) (edited v (file_edit (full_place dir (stored keys.names dir.key name)) text)) dir) (sym both.1)
            (full_belongs texts keys v front dir name e text new is))

pub name_not_full : (texts : GoTexts) (keys : GoKeys) (u : View) (front : plain.Path) (dir : Directory) (name : List ℕ) (e : Edit) → IsNew (go_format keys) u front dir name e
    → is_full_name (stored keys.names dir.key name).name ≡ false
name_not_full texts keys u front dir name e new =
    let of : IsOfText (stored keys.names dir.key name) = of_text texts keys u front dir name new.leads new.named in
    ap (λ (s : Stored). is_full_name s.name) of.is ∙ name_is_not_full of.text texts of.plain

-- a file is whole
file_whole : (texts : GoTexts) (keys : GoKeys) (dir : Directory) (name bytes : List ℕ) (e : Edit) → e.made ≡ file_view bytes → WholeAnywhere keys dir name e
file_whole texts keys dir name bytes e made u front new held =
    file_brings (go_format keys) u dir name e [] new.named new.place held (ap (λ (m : View). (go_format keys).item (is_some (stored keys.names dir.key name).full) m) made) (λ x extra. cc)
    (name_not_full texts keys u front dir name e new)

-- a directory is whole: its folder holds its key file alone
directory_whole : (texts : GoTexts) (keys : GoKeys) (dir : Directory) (name key : List ℕ) (e : Edit) → e.made ≡ folder_view ((key_file, key) ∷ []) → directory_key key ≡ Some key → WholeAnywhere keys dir name e
directory_whole texts keys dir name key e made is_key u front new held = record {
  item = DirectoryItem;
  is = ap (λ (m : View). (go_format keys).item (is_some (stored keys.names dir.key name).full) m) made;
  is_item = λ finding is. cc;
  inside = λ x extra. cc;
  not_full = name_not_full texts keys u front dir name e new;
  unlocked = λ at lack is. let clash : Dir e.at (Ok (record { folder = e.at; key = key })) ≡ Dir at (Err lack) = sym stands ∙ is in cc;
  entered = entered;
}
  where
    stands : standing_in (go_format keys) (edited u e) dir name ≡ Dir e.at (Ok (record { folder = e.at; key = key }))
    stands = directory_stands keys u dir name key e new.named (sym new.place) made is_key held

    fixed_key : (folder : Path) → is_fixed_name folder key_file ≡ true
    fixed_key [] = refl
    fixed_key (a ∷ folder) = refl

    key_there : edited u e (child e.at key_file) ≡ FileOf key
    key_there = brought_here u e key made (key_file ∷ []) ∙ ap (λ b. cond b (FileOf key) NoEntry) ((bytes_eq-Decides key_file key_file).1 refl)

    key_belongs : Belongs (go_format keys) (edited u e) (record { folder = e.at; key = key }) key_file × (is_full_name key_file ≡ false)
    key_belongs = (record { file = (key, key_there); name = ap (λ b. b || is_full_name key_file) (fixed_key e.at) }, refl)

    others : (x : Part) → edited u e (child e.at x) ≢ NoEntry → Belongs (go_format keys) (edited u e) (record { folder = e.at; key = key }) x × (is_full_name x ≡ false)
    others x there = by_name (bytes_eq key_file x) refl
      where
        by_name : (b : Bool) → bytes_eq key_file x ≡ b → Belongs (go_format keys) (edited u e) (record { folder = e.at; key = key }) x × (is_full_name x ≡ false)
        by_name true is = subst (λ y. Belongs (go_format keys) (edited u e) (record { folder = e.at; key = key }) y × (is_full_name y ≡ false)) ((bytes_eq-Decides key_file x).0 is) key_belongs
        by_name false is = absurd (there (brought_here u e key made (x ∷ []) ∙ ap (λ b. cond b (FileOf key) NoEntry) is))

    bare : IsBare (go_format keys) (edited u e) (record { folder = e.at; key = key })
    bare = record { entries = no_entries texts keys u key e made is_key; others = others }

    entered : (at : Path) (d : Directory) → standing_in (go_format keys) (edited u e) dir name ≡ Dir at (Ok d) → (at ≡ e.at) × IsApart (go_format keys) u d.folder × IsBare (go_format keys) (edited u e) d
    entered at d is =
        let whole : Dir e.at (Ok (record { folder = e.at; key = key })) ≡ Dir at (Ok d) = sym stands ∙ is in
        let places : at ≡ e.at = cc in
        let one : record { folder = e.at; key = key } ≡ d = cc in (
          places,
          subst (λ (x : Directory). IsApart (go_format keys) u x.folder) one (free_is_apart (go_format keys) u e.at (ap u (sym new.place) ∙ new.free)),
          subst (IsBare (go_format keys) (edited u e)) one bare,
        )

pub go_keeps : (texts : GoTexts) (keys : GoKeys) → KeepsItems (go_format keys) (go_lawful texts keys)
go_keeps texts keys = record {
  file = λ v front dir name bytes orderly leads named none.
      new_keeps texts keys v front dir name (file_edit (entry_at (go_format keys) dir name) bytes) (opened_file (go_format keys).content (Some bytes)) orderly leads named refl
      (λ u held. file_arrives keys u dir name bytes (file_edit (entry_at (go_format keys) dir name) bytes) named refl refl held)
      (file_whole texts keys dir name bytes (file_edit (entry_at (go_format keys) dir name) bytes) refl) none;
  directory = λ v front dir name key orderly leads named is_key none.
      new_keeps texts keys v front dir name (folder_edit (entry_at (go_format keys) dir name) ((key_file, key) ∷ [])) opens.Directory orderly leads named refl
      (λ u held. directory_arrives texts keys u dir name key (folder_edit (entry_at (go_format keys) dir name) ((key_file, key) ∷ [])) named refl refl is_key held)
      (directory_whole texts keys dir name key (folder_edit (entry_at (go_format keys) dir name) ((key_file, key) ∷ [])) refl is_key) none;
}
