-- An entry of no name: it belongs there as a file, or is found.
use Rattle.std.proofs.Common.{◌≡◌, ◌≢◌, ◌↔◌, [], ℕ, Bool, true, false, ◌&&◌, ◌||◌, List, Some, refl, inl, inr, sym, ap, ◌∙◌, subst, append-nil}
use Rattle.std.specs.Prelude.{Contains}
use Rattle.folder_spec.specs.Listing as folder
use Rattle.folder_spec.specs.Path.{Part, Path, child}
use Rattle.folder_spec.specs.View.{Found, NoEntry, Folder, FileOf, Special, View, kind_found}
use Rattle.vault_spec.specs.Findings.{Belongs, IsEntryOf, number_of}
use Rattle.vault_spec.specs.Format.{Format, Directory, is_file}
use Rattle.vault_spec.specs.Listing.{node_of}
use Rattle.vault_spec.specs.Vault.{Vault, Gocryptfs, Cryptomator, format_of}
use Rattle.vault_spec.specs.declared.Finding.{Finding}
use Rattle.vault_spec.specs.declared.Finding.TheVariants as is
use Rattle.vault_spec.specs.declared.Lack.{Lack}
use Rattle.vault_spec.specs.declared.Lack.TheVariants as lacks
use Rattle.plain_tree.specs.declared.NodeKind.TheVariants as node
use Rattle.vault_read.specs.Opened.{kind_of}
use Rattle.vault_walk.specs.Here.{IsFindingHere, IsInsideHere, IsLockedHere, IsNoItemHere, IsUnnamedHere}
use Rattle.vault_walk.specs.Names.{is_fixed_by, is_full_by, unnamed_by}
use Rattle.vault_walk.specs.Report.{IsBelow, IsEntryIn, IsMainFound, IsMainOf, found_by, is_main}
use Rattle.vault_walk.specs.declared.found.Found as out
use Rattle.vault_walk.proofs.EntryReports.{by_back, by_on, none_apart}
use Rattle.vault_walk.proofs.Finds.{FindsRight, is_of_no_name, unnamed_here}
use Rattle.vault_walk.proofs.Flats.{none_within}
use Rattle.vault_walk.proofs.NamedEntries.{item_named, standing_place}
use Rattle.vault_walk.proofs.Places.{one_below, one_inside}

-- what is found of an entry of no name
pub record IsStray (f : Format) (v : View) (dir : Directory) (entry : Part) (x : out.Found) : Type 0 where
  pub stray : ¬ Belongs f v dir entry
  pub place : x.at ≡ child dir.folder entry
  pub number : x.number ≡ number_of (f.unnamed entry (v (child dir.folder entry)))

module _ (f : Format) (right : FindsRight f) (v : View) (dir : Directory) (entry : Part) (none : (name : List ℕ) → ¬ IsEntryOf f v dir entry name) where
  never_named : (name : List ℕ) → IsEntryOf f v dir (f.stored dir.key name).name name → (f.stored dir.key name).name ≡ entry → ⊥
  never_named name of same = none name (subst (λ e. IsEntryOf f v dir e name) same of)

  never_odd : (finding : Finding) (x : Path) → IsNoItemHere f v dir finding x → IsBelow (child dir.folder entry) x → ⊥
  never_odd finding x u below = never_named u.name u.of (one_below dir.folder (f.stored dir.key u.name).name entry below.0 (sym u.place ∙ below.1))

  never_locked : (lack : Lack) (x : Path) → IsLockedHere f v dir lack x → IsBelow (child dir.folder entry) x → ⊥
  never_locked lack x u below =
      never_named u.name (item_named f v dir u.name node.Dir (ap node_of u.stands))
      (one_below dir.folder (f.stored dir.key u.name).name entry below.0 (standing_place f v dir u.name x lack u.stands ∙ below.1))

  never_inside : (x : Path) → IsInsideHere f v dir x → IsBelow (child dir.folder entry) x → ⊥
  never_inside x u below = never_named u.name u.of (one_inside dir.folder (f.stored dir.key u.name).name entry u.entry below.0 (sym u.place ∙ below.1))

  stray_of : (finding : Finding) (x : out.Found) → x.number ≡ number_of finding → IsUnnamedHere f v dir finding x.at → IsBelow (child dir.folder entry) x.at → IsStray f v dir entry x
  stray_of finding x number u below =
      let same : u.entry ≡ entry = one_below dir.folder u.entry entry below.0 (sym u.place ∙ below.1) in
      let at : x.at ≡ child dir.folder entry = u.place ∙ ap (child dir.folder) same in
      record {
        stray = subst (λ e. ¬ Belongs f v dir e) same u.stray;
        place = at;
        number = number ∙ ap number_of (u.is ∙ ap (λ e. f.unnamed e (v x.at)) same ∙ ap (λ p. f.unnamed entry (v p)) at);
      }

  stray_by : (finding : Finding) (x : out.Found) → x.number ≡ number_of finding → is_main finding ≡ true → IsFindingHere f v dir finding x.at → IsBelow (child dir.folder entry) x.at → IsStray f v dir entry x
  stray_by is.BadStoredName x number main here below = stray_of is.BadStoredName x number here below
  stray_by is.NoDirKey x number main here below = absurd (never_locked lacks.NoDirKey x.at here below)
  stray_by is.LongNameLost x number main here below = stray_of is.LongNameLost x number here below
  stray_by is.OrphanLongName x number main here below = cc
  stray_by is.DirIdTwice x number main here below = absurd here
  stray_by is.NoFolder x number main here below = absurd (never_locked lacks.NoFolder x.at here below)
  stray_by is.OrphanFolder x number main here below = absurd here
  stray_by is.SymlinkFound x number main here below = absurd (never_odd is.SymlinkFound x.at here below)
  stray_by is.WrongKind x number main (inl here) below = stray_of is.WrongKind x number here below
  stray_by is.WrongKind x number main (inr here) below = absurd (never_odd is.WrongKind x.at here below)
  stray_by is.ExtraEntry x number main here below = absurd (never_inside x.at here below)
  stray_by is.TwoKinds x number main here below = absurd (never_odd is.TwoKinds x.at here below)
  stray_by is.HeaderDamaged x number main here below = cc
  stray_by is.ChunkDamaged x number main here below = cc
  stray_by is.EmptyOrphan x number main here below = cc

  no_name_is_main : (finding : Finding) → is_of_no_name finding ≡ true → is_main finding ≡ true
  no_name_is_main is.BadStoredName odd = refl
  no_name_is_main is.LongNameLost odd = refl
  no_name_is_main is.WrongKind odd = refl
  no_name_is_main is.SymlinkFound odd = refl
  no_name_is_main is.TwoKinds odd = refl
  no_name_is_main is.NoDirKey odd = refl
  no_name_is_main is.OrphanLongName odd = cc
  no_name_is_main is.DirIdTwice odd = refl
  no_name_is_main is.NoFolder odd = refl
  no_name_is_main is.OrphanFolder odd = refl
  no_name_is_main is.ExtraEntry odd = refl
  no_name_is_main is.HeaderDamaged odd = cc
  no_name_is_main is.ChunkDamaged odd = cc
  no_name_is_main is.EmptyOrphan odd = cc

  stray_back : v (child dir.folder entry) ≢ NoEntry → (x : out.Found) → IsStray f v dir entry x → IsMainFound f v dir entry x
  stray_back there x s = record {
    finding = finding;
    number = s.number;
    main = no_name_is_main finding (right.unnamed entry (v (child dir.folder entry)));
    here = unnamed_here f v dir finding x.at (right.unnamed entry (v (child dir.folder entry)))
        (record {
          entry = entry;
          place = s.place;
          there = λ e. there (ap v (sym s.place) ∙ e);
          stray = s.stray;
          unnamed = none;
          is = ap (λ p. f.unnamed entry (v p)) (sym s.place);
        });
    below = ([], s.place ∙ sym (append-nil (child dir.folder entry)));
  }
    where
      finding : Finding
      finding = f.unnamed entry (v (child dir.folder entry))

  unnamed_main : v (child dir.folder entry) ≢ NoEntry → (found : List out.Found) → ((x : out.Found) → Contains found x ↔ IsStray f v dir entry x) → IsMainOf f v dir entry (record { members = []; found = found })
  unnamed_main there found are = record {
    sound = λ member among. absurd (none_within member among);
    complete = λ name node stands same. absurd (never_named name (item_named f v dir name node stands) same);
    apart = none_apart;
    found = λ x. (λ among. stray_back there x ((are x).0 among), λ m. (are x).1 (stray_by m.finding x m.number m.main m.here m.below));
  }

  -- it belongs there
  pub main_belongs : v (child dir.folder entry) ≢ NoEntry → Belongs f v dir entry → IsMainOf f v dir entry (record { members = []; found = [] })
  main_belongs there belongs = unnamed_main there [] (λ x. (λ among. absurd (none_within x among), λ s. absurd (s.stray belongs)))

  -- and here it doesn't
  pub main_stray : v (child dir.folder entry) ≢ NoEntry → (at : Path) (finding : Finding) → at ≡ child dir.folder entry → ¬ Belongs f v dir entry → finding ≡ f.unnamed entry (v (child dir.folder entry))
      → IsMainOf f v dir entry (record { members = []; found = found_by at (Some finding) })
  main_stray there at finding place stray is_finding =
      unnamed_main there (found_by at (Some finding)) (λ x. (
        λ among.
            let one = by_on at finding x among in
            record { stray = stray; place = one.0 ∙ place; number = one.1 ∙ ap number_of is_finding },
        λ s. by_back at finding x (s.place ∙ sym place) (s.number ∙ ap number_of (sym is_finding)),
      ))

pub is_fixed_is : (vault : Vault) (folder : Path) (name : Part) → is_fixed_by (kind_of vault) folder name ≡ (format_of vault).is_fixed folder name
is_fixed_is (Gocryptfs keys) folder name = refl
is_fixed_is (Cryptomator cm) folder name = refl

is_full_is : (vault : Vault) (name : Part) → is_full_by (kind_of vault) name ≡ (format_of vault).is_full name
is_full_is (Gocryptfs keys) name = refl
is_full_is (Cryptomator cm) name = refl

pub unnamed_is : (vault : Vault) (name : Part) (there : Found) → unnamed_by (kind_of vault) name there ≡ (format_of vault).unnamed name there
unnamed_is (Gocryptfs keys) name there = refl
unnamed_is (Cryptomator cm) name there = refl

names_are : (vault : Vault) (folder : Path) (name : Part) → (is_fixed_by (kind_of vault) folder name || is_full_by (kind_of vault) name) ≡ ((format_of vault).is_fixed folder name || (format_of vault).is_full name)
names_are vault folder name = ap (λ b. b || is_full_by (kind_of vault) name) (is_fixed_is vault folder name) ∙ ap (λ b. (format_of vault).is_fixed folder name || b) (is_full_is vault name)

file_there : (there : Found) (b : Bool) → (is_file there && b) ≡ true → ((bytes : List ℕ) × (there ≡ FileOf bytes)) × (b ≡ true)
file_there (FileOf bytes) true e = ((bytes, refl), refl)
file_there (FileOf bytes) false e = cc
file_there NoEntry b e = cc
file_there Folder b e = cc
file_there Special b e = cc

-- whether it belongs, as it is tested
pub belongs_if : (vault : Vault) (v : View) (dir : Directory) (entry : Part) → (is_file (v (child dir.folder entry)) && (is_fixed_by (kind_of vault) dir.folder entry || is_full_by (kind_of vault) entry)) ≡ true
    → Belongs (format_of vault) v dir entry
belongs_if vault v dir entry e =
    let both = file_there (v (child dir.folder entry)) (is_fixed_by (kind_of vault) dir.folder entry || is_full_by (kind_of vault) entry) e in
    record { file = both.0; name = sym (names_are vault dir.folder entry) ∙ both.1 }

pub belongs_only_if : (vault : Vault) (v : View) (dir : Directory) (entry : Part) → (is_file (v (child dir.folder entry)) && (is_fixed_by (kind_of vault) dir.folder entry || is_full_by (kind_of vault) entry)) ≡ false
    → ¬ Belongs (format_of vault) v dir entry
belongs_only_if vault v dir entry e b =
    let clash : true ≡ false = sym (ap (λ x. is_file x && (is_fixed_by (kind_of vault) dir.folder entry || is_full_by (kind_of vault) entry)) b.file.1 ∙ names_are vault dir.folder entry ∙ b.name) ∙ e in cc clash

-- an entry that is listed stands
pub listed_stands : (v : View) (dir : Directory) (entry : folder.Item) → IsEntryIn v dir entry → v (child dir.folder entry.name) ≢ NoEntry
listed_stands v dir entry listed none = listed.there (sym listed.kind ∙ ap kind_found none)
