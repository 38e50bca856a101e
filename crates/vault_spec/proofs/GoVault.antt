-- gocryptfs's format is lawful, and a new item of it comes alone.
use Rattle.vault_spec.specs.StoredNames.{GoTexts}
use Rattle.vault_spec.proofs.PathEnds.{child-both}
use Rattle.vault_names.specs.declared.entry.Stored.{Stored}
use Rattle.std.proofs.Common.{◌≡◌, ◌≢◌, ℕ, ◌==◌, Bool, true, false, ◌&&◌, not, List, [], ◌∷◌, refl, sym, ap, ◌∙◌, inl, inr, subst, Some, None, Option, IsTrue, length, append-nil, bytes_eq, ◌++◌, ◌⊎◌, is_some, codes}
use Rattle.std.specs.Option.{option_and_then}
use Rattle.std.specs.List.{list_all}
use Rattle.std.proofs.lemmas.Bool.{and_parts, eqb-true}
use Rattle.std.proofs.lemmas.Slice.Eq.{bytes_eq-Decides}
use Rattle.aes_lanes.specs.Bytes.{IsBlock}
use Rattle.chunk_files.specs.Zeros.{is_all_zero}
use Rattle.folder_spec.specs.Path.{Path, child, Part}
use Rattle.folder_spec.specs.View.{Found, NoEntry, Folder, FileOf, Special, View, kind_found}
use Rattle.vault_values.specs.declared.keys.GoKeys.{GoKeys}
use Rattle.json_fields.specs.Base64.{is_base64url}
use Rattle.plain_tree.specs.Names.{is_name}
use Rattle.vault_names.specs.Gocryptfs.{go_text, long_name, stored, entry_of}
use Rattle.folder_spec.specs.Seen.{under, ShowsFile}
use Rattle.plain_tree.specs.Names as plain
use Rattle.vault_spec.specs.Reached.{Leads, HaveOwnFolders}
use Rattle.vault_spec.proofs.Grafts.{IsRight, reached_right}
use Rattle.vault_spec.specs.Format.{Directory, FileItem, is_bytes, file_bytes, key_of}
use Rattle.vault_spec.specs.Gocryptfs.{key_file, full_name, directory_key, go_item, go_format}
use Rattle.vault_spec.proofs.Lawful.{IsLawful, SparesConfiguration}
use Rattle.vault_spec.proofs.ByteKeys.{given, are_bytes}
use Rattle.vault_spec.proofs.Entries.{one_text, same_forms, entry_is, IsShortOrLong}
use Rattle.vault_spec.proofs.GoNames.{not_long, entry_not, entry_not_key, entry_not_full}

-- sixteen bytes
unfoldable pub is_go_key : List ℕ → Bool
is_go_key key = is_bytes key && (length key == 16)

pub is_block : (key : List ℕ) → is_go_key key ≡ true → IsBlock key
unfolding is_go_key
is_block key is = record {
  sixteen = eqb-true (length key) 16 (and_parts (is_bytes key) (length key == 16) is).1;
  bytes = are_bytes key (and_parts (is_bytes key) (length key == 16) is).0;
}

pub key_is : (o : Option (List ℕ)) (key : List ℕ) → option_and_then directory_key o ≡ Some key → is_go_key key ≡ true
unfolding is_go_key
key_is None key e = cc
key_is (Some bytes) key e =
    let both : ((is_bytes bytes && (length bytes == 16) && not (is_all_zero bytes)) ≡ true) × (bytes ≡ key)
    = given (is_bytes bytes && (length bytes == 16) && not (is_all_zero bytes)) bytes key e in
    ap is_go_key (sym both.1) ∙ two_true (is_bytes bytes) (length bytes == 16) (not (is_all_zero bytes)) both.0
  where
    two_true : (a b c : Bool) → (a && b && c) ≡ true → (a && b) ≡ true
    two_true true true c e = refl
    two_true true false c e = cc
    two_true false b c e = cc

pub text_plain : GoTexts → (keys : GoKeys) (key name : List ℕ) → is_go_key key ≡ true → IsTrue (is_name name) → IsTrue (list_all is_base64url (go_text keys.names key name))
text_plain texts keys key name is named = texts.plain keys.names key name (is_block key is) named

pub content_is : (x : Found) (rest : Path) → go_item x ≡ FileItem rest → (rest ≡ []) × ((bytes : List ℕ) × (x ≡ FileOf bytes))
content_is NoEntry rest e = cc
content_is (FileOf bytes) rest e = (cc, (bytes, refl))
content_is Folder rest e = cc
content_is Special rest e = cc

pub go_content : (v : View) (rest : Path) → go_item (v []) ≡ FileItem rest → ShowsFile v rest
go_content v rest e = let is : (rest ≡ []) × ((bytes : List ℕ) × (v [] ≡ FileOf bytes)) = content_is (v []) rest e in subst (ShowsFile v) (sym is.0) is.1

pub content_or_entry : (x : Found) (rest : Path) → (rest ≡ []) ⊎ (go_item x ≡ FileItem rest) → rest ≡ []
content_or_entry x rest (inl none) = none
content_or_entry x rest (inr item) = (content_is x rest item).0

pub item_by_kind : (x y : Found) → kind_found x ≡ kind_found y → go_item x ≡ go_item y
item_by_kind NoEntry NoEntry e = refl
item_by_kind Folder Folder e = refl
item_by_kind (FileOf a) (FileOf b) e = refl
item_by_kind Special Special e = refl
item_by_kind NoEntry Folder e = cc
item_by_kind NoEntry (FileOf b) e = cc
item_by_kind NoEntry Special e = cc
item_by_kind Folder NoEntry e = cc
item_by_kind Folder (FileOf b) e = cc
item_by_kind Folder Special e = cc
item_by_kind (FileOf a) NoEntry e = cc
item_by_kind (FileOf a) Folder e = cc
item_by_kind (FileOf a) Special e = cc
item_by_kind Special NoEntry e = cc
item_by_kind Special Folder e = cc
item_by_kind Special (FileOf b) e = cc

-- a content is stored at its entry
pub at_entry : (at : Path) (a : Part) (rest : Path) (x : Found) → go_item x ≡ FileItem rest → child at a ≡ child at a ++ rest
at_entry at a rest x item = sym (append-nil (child at a)) ∙ ap (λ r. child at a ++ r) (sym (content_is x rest item).0)

-- the entry of a name is no long-name file
pub entry_not_long : (text other : List ℕ) → GoTexts → IsTrue (list_all is_base64url text) → is_some (entry_of other).full ≡ true → (entry_of text).name ≢ full_name (entry_of other).name
entry_not_long text other texts plain long = by_form (entry_is long_name 255 other)
  where
    by_form : IsShortOrLong long_name 255 other → (entry_of text).name ≢ full_name (entry_of other).name
    by_form (inl short) same = let clash : true ≡ false = sym long ∙ ap (λ (s : Stored). is_some s.full) short in cc
    by_form (inr is_long) same = entry_not_full text other texts plain (same ∙ ap (λ (s : Stored). full_name s.name) is_long)

-- nor a configuration of a vault
pub entry_spares_configuration : GoTexts → (at : Path) (text : List ℕ) → IsTrue (list_all is_base64url text) → SparesConfiguration (child at (entry_of text).name)
entry_spares_configuration texts at text plain = record {
  gocryptfs = λ same. entry_not (codes "gocryptfs.conf") refl (λ size. cc) text texts plain (name_is (codes "gocryptfs.conf") same);
  master = λ same. entry_not (codes "masterkey.cryptomator") refl (λ size. cc) text texts plain (name_is (codes "masterkey.cryptomator") same);
  vault = λ same. entry_not (codes "vault.cryptomator") refl (λ size. cc) text texts plain (name_is (codes "vault.cryptomator") same);
}
  where
    name_is : (x : Part) → x ∷ [] ≡ child at (entry_of text).name → (entry_of text).name ≡ x
    name_is x same = sym (child-both [] at x (entry_of text).name same).1

unfoldable pub go_lawful : GoTexts → (keys : GoKeys) → IsLawful (go_format keys)
unfolding stored
go_lawful texts keys = record {
  marks = λ m. bytes_eq m key_file;
  is_key = is_go_key;
  root_key = λ v key e. key_is (file_bytes (v (key_file ∷ []))) key e;
  entry_key = λ v key e. key_is (file_bytes (v (key_file ∷ []))) key e;
  root_apart = λ v w key other at some is is_other folders keys_one. some (sym folders);
  one_name = λ key name other is named other_named e.
      let texts_one : go_text keys.names key name ≡ go_text keys.names key other = one_text long_name 255 (go_text keys.names key name) (go_text keys.names key other) e in
      texts.one keys.names key (go_text keys.names key other) name other (is_block key is) (record { named = named; encrypts = texts_one }) (record { named = other_named; encrypts = refl });
  forms = λ key name other is named other_named e.
      same_forms long_name 255 (go_text keys.names key name) (go_text keys.names key other)
      (λ same. not_long (go_text keys.names key name) (go_text keys.names key other) [] texts (text_plain texts keys key name is named) (same ∙ sym (append-nil (long_name (go_text keys.names key other)))))
      (λ same. not_long (go_text keys.names key other) (go_text keys.names key name) [] texts (text_plain texts keys key other is other_named) (same ∙ sym (append-nil (long_name (go_text keys.names key name))))) e;
  item_by_kinds = λ long v w there marks. item_by_kind (v []) (w []) there;
  key_is_mark = (bytes_eq-Decides key_file key_file).1 refl;
  root_by_key = λ v w same. ap (λ x. option_and_then directory_key (file_bytes x)) same;
  none = λ long v free. ap go_item free;
  content = λ long v rest e. go_content v rest e;
  content_entry = λ v w long short one two key other at place a b is_one is_two same.
      let first : one ≡ [] = content_or_entry (v []) one is_one in
      let second : two ≡ [] = content_or_entry (w []) two is_two in
      sym (append-nil (child at a)) ∙ ap (λ r. child at a ++ r) (sym first) ∙ same ∙ ap (λ r. child place b ++ r) second ∙ append-nil (child place b);
  content_no_key = λ v key other name another rest at place is named item same.
      entry_not_key (go_text keys.names key name) texts (text_plain texts keys key name is named)
      (child-both at (child place (stored keys.names other another).name) (stored keys.names key name).name key_file (at_entry at (stored keys.names key name).name rest (v []) item ∙ same)).1;
  content_no_root_key = λ v key name rest at is named item same.
      entry_not_key (go_text keys.names key name) texts (text_plain texts keys key name is named)
      (child-both at [] (stored keys.names key name).name key_file (at_entry at (stored keys.names key name).name rest (v []) item ∙ same)).1;
  content_no_configuration = λ v key name rest at is named item.
      subst SparesConfiguration (at_entry at (stored keys.names key name).name rest (v []) item)
      (entry_spares_configuration texts at (go_text keys.names key name) (text_plain texts keys key name is named));
  content_no_name = λ v key other name another rest at place is named item long is_other another_named same.
      entry_not_long (go_text keys.names key name) (go_text keys.names other another) texts (text_plain texts keys key name is named) long
      (child-both at place (stored keys.names key name).name (full_name (stored keys.names other another).name) (at_entry at (stored keys.names key name).name rest (v []) item ∙ same)).1;
  unnamed_by_file = λ x a b. refl;
  role_by_file = λ at a b. refl;
  inner_role_by_file = λ long item x a b. refl;
  no_role = λ at. refl;
  no_inner_role = λ long item x. refl;
  role_in_nothing = λ long x there. refl;
  full_place = λ entry. inl (full_name entry, refl);
}

-- the key of a reached directory is that of its folder
key_by_folder : (texts : GoTexts) (keys : GoKeys) (v : View) (path : plain.Path) (dir : Directory) → Leads (go_format keys) v path dir → key_of (go_format keys) (under dir.folder v) ≡ Some dir.key
key_by_folder texts keys v path dir leads =
    let right : IsRight (go_format keys) (go_lawful texts keys) v dir = reached_right (go_format keys) (go_lawful texts keys) v path dir leads in
    ap (λ p. key_of (go_format keys) (under p v)) right.form ∙ elim right.its_key [
      | inl entered ↦ entered
      | inr root ↦ ap (λ p. key_of (go_format keys) (under p v)) root.0 ∙ root.1
    ]

-- so no two directories have one folder
pub own_folders : GoTexts → (keys : GoKeys) (v : View) → HaveOwnFolders (go_format keys) v
own_folders texts keys v dir other one two same =
    let keys_one : Some dir.key ≡ Some other.key
    = sym (key_by_folder texts keys v one.0 dir one.1) ∙ ap (λ p. key_of (go_format keys) (under p v)) same ∙ key_by_folder texts keys v two.0 other two.1 in
    let key_one : dir.key ≡ other.key = cc in
    ap (λ p. the_directory p dir.key) same ∙ ap (the_directory other.folder) key_one
  where
    the_directory : Path → List ℕ → Directory
    the_directory folder key = record { folder = folder; key = key }
