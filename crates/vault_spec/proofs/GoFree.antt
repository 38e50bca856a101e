-- In a clean gocryptfs vault an item's own place is free, but where something is left over.
use Rattle.std.proofs.Common.{◌≡◌, ◌≢◌, ℕ, Bool, true, false, ◌||◌, List, [], if◌then◌else◌, refl, sym, ap, ◌∙◌, inl, subst, Some, None, Option, IsTrue, is_some, codes, bytes_eq}
use Rattle.std.proofs.lemmas.List.{append_cancel_right}
use Rattle.std.specs.Option.{option_or}
use Rattle.folder_spec.specs.Path.{Part, Path, child}
use Rattle.folder_spec.specs.View.{Found, NoEntry, Folder, FileOf, Special, View}
use Rattle.vault_values.specs.declared.keys.GoKeys.{GoKeys}
use Rattle.plain_tree.specs.Names as plain
use Rattle.plain_tree.specs.Names.{is_name}
use Rattle.vault_names.specs.Gocryptfs.{long_name, stored, entry_of}
use Rattle.vault_names.specs.declared.entry.Stored.{Stored}
use Rattle.vault_spec.specs.StoredNames.{GoTexts}
use Rattle.vault_spec.specs.declared.Finding.{Finding}
use Rattle.vault_spec.specs.declared.Finding.TheVariants as is
use Rattle.vault_spec.specs.Format.{Directory, Nothing, NoItem, taken_at}
use Rattle.vault_spec.specs.Gocryptfs.{full_name, is_full_name, is_fixed_name, go_item, go_format, go_taken, taken_unless}
use Rattle.vault_spec.specs.Standing.{entry_at}
use Rattle.vault_spec.specs.Reached.{Leads}
use Rattle.vault_spec.specs.Findings.{Belongs, IsClean, IsFullTextOf}
use Rattle.vault_spec.specs.Making.{NewItem, NewDirectory, NewFile, taken}
use Rattle.vault_spec.specs.Tidy.{IsTidyAt, OwnPlacesAreFree}
use Rattle.vault_spec.specs.Vault.{Gocryptfs}
use Rattle.vault_spec.proofs.Accounted.{accounted}
use Rattle.vault_spec.proofs.Entries.{long_entry}
use Rattle.vault_spec.proofs.FreePlaces.{OfNoItem, KnowsEntries, entry_free}
use Rattle.vault_spec.proofs.GoNames.{full_is_full, entry_not_fixed, name_is_not_full}
use Rattle.vault_spec.proofs.GoVault.{go_lawful}
use Rattle.vault_spec.proofs.GoAdding.{IsOfText, text_under, of_text, long_is, full_place, name_not_full}

nothing_there : (x : Found) → go_item x ≡ Nothing → x ≡ NoEntry
nothing_there NoEntry is = refl
nothing_there (FileOf bytes) is = cc
nothing_there Folder is = cc
nothing_there Special is = cc

links_alone : (x : Found) (finding : Finding) → go_item x ≡ NoItem finding → OfNoItem finding
links_alone NoEntry finding is = cc
links_alone (FileOf bytes) finding is = cc
links_alone Folder finding is = cc
links_alone Special finding is = inl cc

not_fixed : (texts : GoTexts) (folder : Path) (s : Stored) → IsOfText s → (is_fixed_name folder s.name || is_full_name s.name) ≡ false
not_fixed texts folder s of =
    ap (λ (t : Stored). is_fixed_name folder t.name || is_full_name t.name) of.is
    ∙ ap (λ b. b || is_full_name (entry_of of.text).name) (entry_not_fixed folder of.text texts of.plain) ∙ name_is_not_full of.text texts of.plain

go_entries : (texts : GoTexts) (keys : GoKeys) → KnowsEntries (go_format keys) (go_lawful texts keys)
unfolding go_lawful
go_entries texts keys = record {
  nothing = λ long v is. nothing_there (v []) is;
  faults = λ long v finding is. links_alone (v []) finding is;
  not_fixed = λ folder key name is named. not_fixed texts folder (stored keys.names key name) (text_under texts keys key name is named);
}

-- beside a free entry there is no long-name file, but one that is left over
full_free : (texts : GoTexts) (keys : GoKeys) (v : View) (front : plain.Path) (dir : Directory) (name : List ℕ) → IsClean (go_format keys) v → Leads (go_format keys) v front dir
    → IsTrue (is_name name) → v (entry_at (go_format keys) dir name) ≡ NoEntry → is_some (stored keys.names dir.key name).full ≡ true → IsTidyAt (go_format keys) v (full_place dir (stored keys.names dir.key name))
    → v (full_place dir (stored keys.names dir.key name)) ≡ NoEntry
full_free texts keys v front dir name clean leads named free long tidy = by_kind (v (full_place dir (stored keys.names dir.key name))) refl
  where
    its_text : IsOfText (stored keys.names dir.key name)
    its_text = of_text texts keys v front dir name leads named

    full : is_full_name (full_name (stored keys.names dir.key name).name) ≡ true
    full = let is_long : (t : List ℕ) × (stored keys.names dir.key name ≡ long_entry long_name t) = long_is (stored keys.names dir.key name) its_text long in
        ap (λ (s : Stored). is_full_name (full_name s.name)) is_long.1 ∙ full_is_full is_long.0 texts

    -- what is there is a file, as no name's entry is there
    strange : v (full_place dir (stored keys.names dir.key name)) ≢ NoEntry → ¬ Belongs (go_format keys) v dir (full_name (stored keys.names dir.key name).name) → ⊥
    strange there stray = accounted (Gocryptfs keys) v dir (full_name (stored keys.names dir.key name).name) clean (front, leads) there stray
        (λ other of. name_not_full texts (stored keys.names dir.key other) (stored keys.names dir.key name) (of_text texts keys v front dir other leads of.named) its_text long (sym of.stores))

    -- with a right text, whose entry isn't there
    wrong : (entry : Part) → ¬ IsFullTextOf (go_format keys) v dir (full_name (stored keys.names dir.key name).name) entry
    wrong entry text =
        let files : full_name entry ≡ full_name (stored keys.names dir.key name).name = cc in
        let entries : entry ≡ (stored keys.names dir.key name).name = append_cancel_right entry (stored keys.names dir.key name).name (codes ".name") files in
        tidy.name (record {
          dir = dir;
          file = full_name (stored keys.names dir.key name).name;
          entry = entry;
          reached = (front, leads);
          place = refl;
          full = full;
          right = text;
          alone = ap (λ x. v (child dir.folder x)) entries ∙ free;
        })

    by_kind : (x : Found) → v (full_place dir (stored keys.names dir.key name)) ≡ x → x ≡ NoEntry
    by_kind NoEntry there = refl
    by_kind Folder there = absurd (strange (λ none. let clash : Folder ≡ NoEntry = sym there ∙ none in cc) (λ b. let clash : Folder ≡ FileOf b.file.0 = sym there ∙ b.file.1 in cc))
    by_kind Special there = absurd (strange (λ none. let clash : Special ≡ NoEntry = sym there ∙ none in cc) (λ b. let clash : Special ≡ FileOf b.file.0 = sym there ∙ b.file.1 in cc))
    by_kind (FileOf bytes) there = absurd (clean is.OrphanLongName (full_place dir (stored keys.names dir.key name)) refl (record {
      dir = dir;
      file = full_name (stored keys.names dir.key name).name;
      reached = (front, leads);
      place = refl;
      there = (bytes, there);
      full = full;
      wrong = wrong;
    }))

-- what is taken beside a free entry is the place of the long-name file
taken_beside : (v : View) (dir : Directory) (s : Stored) (at : Path) → v (child dir.folder s.name) ≡ NoEntry → go_taken v dir s ≡ Some at → (at ≡ full_place dir s) × (is_some s.full ≡ true) × (v (full_place dir s) ≢ NoEntry)
taken_beside v dir s at free is =
    by (v (full_place dir s)) s.full
    (sym (ap (λ x. option_or (taken_at (child dir.folder s.name) x) (taken_unless (full_place dir s) (v (full_place dir s)) s.full)) free) ∙ is)
  where
    one : (p q : Path) → Some p ≡ Some q → q ≡ p
    one p q same = cc same

    by : (there : Found) (full : Option (List ℕ)) → taken_unless (full_place dir s) there full ≡ Some at → (at ≡ full_place dir s) × (is_some full ≡ true) × (there ≢ NoEntry)
    by there None e = let never : None ≡ Some at = e in cc never
    by NoEntry (Some text) e = let never : None ≡ Some at = e in cc never
    by Folder (Some text) e = (one (full_place dir s) at e, refl, λ z. cc z)
    by Special (Some text) e = (one (full_place dir s) at e, refl, λ z. cc z)
    by (FileOf bytes) (Some text) e = (by_text (bytes_eq bytes text) e, refl, λ z. cc z)
      where
        by_text : (b : Bool) → (if b then None else Some (full_place dir s)) ≡ Some at → at ≡ full_place dir s
        by_text true never = cc never
        by_text false same = one (full_place dir s) at same

pub go_places_free : GoTexts → (keys : GoKeys) → OwnPlacesAreFree (go_format keys)
go_places_free texts keys v front dir name item drawn at clean leads named none own tidy = by_item item
  where
    free : v (entry_at (go_format keys) dir name) ≡ NoEntry
    free = entry_free (Gocryptfs keys) (go_lawful texts keys) (go_entries texts keys) v dir name clean (front, leads) named none own.named

    untaken : go_taken v dir (stored keys.names dir.key name) ≢ Some at
    untaken is =
        let beside : (at ≡ full_place dir (stored keys.names dir.key name)) × (is_some (stored keys.names dir.key name).full ≡ true) × (v (full_place dir (stored keys.names dir.key name)) ≢ NoEntry)
        = taken_beside v dir (stored keys.names dir.key name) at free is in
        beside.2 (full_free texts keys v front dir name clean leads named free beside.1 (subst (IsTidyAt (go_format keys) v) beside.0 tidy))

    by_item : (item : NewItem) → taken (go_format keys) v dir name item drawn ≢ Some at
    by_item NewDirectory = untaken
    by_item (NewFile content) = untaken
