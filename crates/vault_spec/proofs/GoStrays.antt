-- gocryptfs's format knows its strays.
use Rattle.std.proofs.Common.{◌≡◌, ◌≢◌, ℕ, List, [], ◌∷◌, refl, sym, ap, ◌∙◌, inl, IsTrue, is_some, true, false}
use Rattle.std.proofs.lemmas.Slice.Eq.{bytes_eq-Decides}
use Rattle.folder_spec.specs.Path.{Part, Path}
use Rattle.vault_values.specs.declared.keys.GoKeys.{GoKeys}
use Rattle.vault_names.specs.Gocryptfs.{long_name, stored}
use Rattle.vault_names.specs.declared.entry.Stored.{Stored}
use Rattle.vault_spec.specs.StoredNames.{GoTexts}
use Rattle.vault_spec.specs.Gocryptfs.{key_file, full_name, is_full_name, is_fixed_name, go_format}
use Rattle.vault_spec.specs.Moving.{StraysGoAlone}
use Rattle.vault_spec.proofs.Entries.{long_entry}
use Rattle.vault_spec.proofs.StrayLaws.{KnowsStrays}
use Rattle.vault_spec.proofs.StraysAlone.{strays_alone}
use Rattle.vault_spec.proofs.GoNames.{entry_not_key, full_is_full, name_is_not_full}
use Rattle.vault_spec.proofs.GoVault.{content_is, item_by_kind, go_lawful}
use Rattle.vault_spec.proofs.GoAdding.{IsOfText, text_under, long_is}

pub key_is_fixed : (folder : Path) → IsTrue (is_fixed_name folder key_file)
key_is_fixed [] = refl
key_is_fixed (a ∷ folder) = refl

-- a long name's file has the name of one
its_full : (texts : GoTexts) (s : Stored) (file : Part) → IsOfText s → is_some s.full ≡ true → full_name s.name ∷ [] ≡ file ∷ [] → is_full_name file ≡ true
its_full texts s file of long same =
    let is_long : (text : List ℕ) × (s ≡ long_entry long_name text) = long_is s of long in
    let files : full_name s.name ≡ file = cc in
    ap is_full_name (sym files) ∙ ap (λ (t : Stored). is_full_name (full_name t.name)) is_long.1 ∙ full_is_full is_long.0 texts

not_key : (texts : GoTexts) (s : Stored) → IsOfText s → s.name ≢ key_file
not_key texts s of same = entry_not_key of.text texts of.plain (ap (λ (t : Stored). t.name) (sym of.is) ∙ same)

not_full : (texts : GoTexts) (s : Stored) → IsOfText s → is_full_name s.name ≡ false
not_full texts s of = ap (λ (t : Stored). is_full_name t.name) of.is ∙ name_is_not_full of.text texts of.plain

go_strays : (texts : GoTexts) (keys : GoKeys) → KnowsStrays (go_format keys) (go_lawful texts keys)
unfolding go_lawful
go_strays texts keys = record {
  layout = inl (record {
    own = λ at key. refl;
    root = λ v. refl;
    mark = λ m is. (bytes_eq-Decides m key_file).0 is;
    fixed = key_is_fixed;
    not_full = refl;
    not_named = λ key name is named. not_key texts (stored keys.names key name) (text_under texts keys key name is named);
    inner = λ long item x there. refl;
    beside = λ entry. (full_name entry, refl);
  });
  item_by_files = λ long v w there marks. item_by_kind (v []) (w []) there;
  content_place = λ long v rest item. inl (content_is (v []) rest item).0;
  entry_not_full = λ key name is named. not_full texts (stored keys.names key name) (text_under texts keys key name is named);
  full_is_full = λ key name file is named long same. its_full texts (stored keys.names key name) file (text_under texts keys key name is named) long same;
  mark_belongs = λ long v m there mark file extra. cc;
  full_belongs = λ item a file bytes place extra. cc;
  role_in_no_item = λ long finding x there. refl;
  root_role = λ there. refl;
  entry_role = λ at key a rest there. refl;
  folder_role = λ at key p rest above extra. cc;
  folder_content = λ at key p rest above is. cc;
  below_role = λ p a rest there role. refl;
}

pub go_strays_alone : GoTexts → (keys : GoKeys) → StraysGoAlone (go_format keys)
go_strays_alone texts keys = strays_alone (go_format keys) (go_lawful texts keys) (go_strays texts keys)
