-- In a clean vault nothing stands at the entry of a name under which there is no item, where no other item is stored there.
use Rattle.std.proofs.Common.{◌≡◌, ◌≢◌, ℕ, Bool, true, false, ◌||◌, List, [], refl, sym, ap, ◌∙◌, inl, inr, subst, append-nil, IsTrue, is_some, bytes_eq}
use Rattle.std.proofs.lemmas.Slice.Eq.{bytes_eq-Decides}
use Rattle.folder_spec.specs.Path.{Path, child}
use Rattle.folder_spec.specs.View.{NoEntry, View}
use Rattle.folder_spec.specs.Seen.{under}
use Rattle.plain_tree.specs.Names.{is_name}
use Rattle.vault_spec.specs.declared.Finding.{Finding}
use Rattle.vault_spec.specs.declared.Finding.TheVariants as is
use Rattle.vault_spec.specs.Format.{Format, Directory, Item, Nothing, FileItem, DirectoryItem, NoItem}
use Rattle.vault_spec.specs.Standing.{entry_at, item_at, standing_of, standing_in}
use Rattle.vault_spec.specs.Reached.{IsReached}
use Rattle.vault_spec.specs.Findings.{Belongs, IsClean, IsEntryOf}
use Rattle.vault_spec.specs.Findings as findings
use Rattle.vault_spec.specs.Alike.{HasNoItem}
use Rattle.vault_spec.specs.Vault.{Vault, format_of}
use Rattle.vault_spec.proofs.Lawful.{IsLawful}
use Rattle.vault_spec.proofs.Grafts.{reached_right, standing_named}
use Rattle.vault_spec.proofs.Places.{none_or_there}
use Rattle.vault_spec.proofs.Accounted.{IsOneOf, accounted}

-- an entry that is no item has one of these findings
abbrev pub OfNoItem : Finding → Type 0
OfNoItem finding = IsOneOf is.SymlinkFound is.WrongKind is.TwoKinds finding

-- What a format says of what stands at entries.
pub record KnowsEntries (f : Format) (lawful : IsLawful f) : Type 0 where
  pub nothing : (long : Bool) (v : View) → f.item long v ≡ Nothing → v [] ≡ NoEntry
  pub faults : (long : Bool) (v : View) (finding : Finding) → f.item long v ≡ NoItem finding → OfNoItem finding
  -- no entry of a name has the name of a file that belongs in the folder
  pub not_fixed : (folder : Path) (key name : List ℕ) → IsTrue (lawful.is_key key) → IsTrue (is_name name)
      → (f.is_fixed folder (f.stored key name).name || f.is_full (f.stored key name).name) ≡ false

pub fault_found : (f : Format) (v : View) (finding : Finding) (at : Path) → IsClean f v → findings.IsNoItem f v finding at → OfNoItem finding → ⊥
fault_found f v finding at clean found (inl link) = clean is.SymlinkFound at refl (subst (λ x. findings.IsNoItem f v x at) link found)
fault_found f v finding at clean found (inr (inl kind)) = clean is.WrongKind at refl (inr (subst (λ x. findings.IsNoItem f v x at) kind found))
fault_found f v finding at clean found (inr (inr two)) = clean is.TwoKinds at refl (subst (λ x. findings.IsNoItem f v x at) two found)

-- what is there with a right name is an item
item_stands : (f : Format) (lawful : IsLawful f) → KnowsEntries f lawful → (v : View) (dir : Directory) (name : List ℕ) → IsClean f v → IsReached f v dir
    → IsEntryOf f v dir (f.stored dir.key name).name name → v (entry_at f dir name) ≢ NoEntry → ¬ HasNoItem (standing_in f v dir name)
item_stands f lawful knows v dir name clean reached of there none = by_item (item_at f v dir (f.stored dir.key name)) refl
  where
    stands : (item : Item) → item_at f v dir (f.stored dir.key name) ≡ item → standing_in f v dir name ≡ standing_of f v (entry_at f dir name) true item
    stands item is =
        standing_named f v dir name of.named
        ∙ ap (λ b. standing_of f v (entry_at f dir name) b (item_at f v dir (f.stored dir.key name))) of.full
        ∙ ap (standing_of f v (entry_at f dir name) true) is

    by_item : (item : Item) → item_at f v dir (f.stored dir.key name) ≡ item → ⊥
    by_item Nothing is = there (ap v (sym (append-nil (entry_at f dir name))) ∙ knows.nothing (is_some (f.stored dir.key name).full) (under (entry_at f dir name) v) is)
    by_item (FileItem rest) is = subst HasNoItem (stands (FileItem rest) is) none
    by_item DirectoryItem is = subst HasNoItem (stands DirectoryItem is) none
    by_item (NoItem finding) is =
        fault_found f v finding (entry_at f dir name) clean (record { dir = dir; name = name; reached = reached; of = of; place = refl; is = is })
        (knows.faults (is_some (f.stored dir.key name).full) (under (entry_at f dir name) v) finding is)

-- so nothing is at the entry of another
pub entry_free : (vault : Vault) (lawful : IsLawful (format_of vault)) → KnowsEntries (format_of vault) lawful → (v : View) (dir : Directory) (name : List ℕ)
    → IsClean (format_of vault) v → IsReached (format_of vault) v dir → IsTrue (is_name name) → HasNoItem (standing_in (format_of vault) v dir name)
    → ((other : List ℕ) → other ≢ name → ¬ HasNoItem (standing_in (format_of vault) v dir other) → ((format_of vault).stored dir.key other).name ≢ ((format_of vault).stored dir.key name).name)
    → v (entry_at (format_of vault) dir name) ≡ NoEntry
entry_free vault lawful knows v dir name clean reached named none own = elim (none_or_there (v (entry_at (format_of vault) dir name))) [
  | inl free ↦ free
  | inr there ↦ absurd (accounted vault v dir ((format_of vault).stored dir.key name).name clean reached there no_file (shared there))
]
  where
    no_file : ¬ Belongs (format_of vault) v dir ((format_of vault).stored dir.key name).name
    no_file belongs =
        let clash : true ≡ false = sym belongs.name
        ∙ knows.not_fixed dir.folder dir.key name (reached_right (format_of vault) lawful v reached.0 dir reached.1).is_key named in cc

    shared : v (entry_at (format_of vault) dir name) ≢ NoEntry → (other : List ℕ) → ¬ IsEntryOf (format_of vault) v dir ((format_of vault).stored dir.key name).name other
    shared there other of = by_eq (bytes_eq other name) refl
      where
        other_stands : ¬ HasNoItem (standing_in (format_of vault) v dir other)
        other_stands = item_stands (format_of vault) lawful knows v dir other clean reached (record { named = of.named; stores = refl; full = of.full })
            (λ z. there (ap (λ x. v (child dir.folder x)) (sym of.stores) ∙ z))

        by_eq : (b : Bool) → bytes_eq other name ≡ b → ⊥
        by_eq true e = other_stands (subst (λ n. HasNoItem (standing_in (format_of vault) v dir n)) (sym ((bytes_eq-Decides other name).0 e)) none)
        by_eq false e = own other (λ same. let yes : bytes_eq other name ≡ true = (bytes_eq-Decides other name).1 same in cc) other_stands of.stores
