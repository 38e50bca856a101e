-- Long-name files beside their entries.
use Rattle.std.proofs.Common.{◌≡◌, ◌≢◌, ◌++◌, ℕ, Bool, true, false, not, List, Option, Some, None, is_some, refl, sym, ap, ◌∙◌, subst}
use Rattle.folder_spec.specs.Listing as folder
use Rattle.folder_spec.specs.Path.{Part, Path, child}
use Rattle.folder_spec.specs.Seen.{ShowsFile}
use Rattle.folder_spec.specs.View as view
use Rattle.folder_spec.specs.View.{NoEntry, Folder, FileOf, Special, View, kind_found}
use Rattle.folder_spec.specs.declared.Kind.TheVariants as kinds
use Rattle.folder_spec.proofs.Paths.{child-last}
use Rattle.vault_spec.specs.Findings.{IsFullTextOf}
use Rattle.vault_spec.specs.Format.{Format, Directory, file_bytes}
use Rattle.vault_spec.specs.Standing.{holds, is_file_of}
use Rattle.vault_spec.specs.declared.Finding.{Finding}
use Rattle.vault_spec.specs.declared.Finding.TheVariants as is
use Rattle.vault_walk.specs.Here.{IsIdleHere, IsOrphanHere}
use Rattle.vault_walk.specs.Report.{IsEntryIn, IsSideOf, idle_by}

pub not_true : (b : Bool) → not b ≡ true → b ≡ false
not_true false e = refl
not_true true e = cc

pub not_false : (b : Bool) → not b ≡ false → b ≡ true
not_false true e = refl
not_false false e = cc

-- what holds a text is a file
file_holds : (text : List ℕ) (there : view.Found) → is_file_of text (file_bytes there) ≡ true → (bytes : List ℕ) × (there ≡ FileOf bytes)
file_holds text (FileOf bytes) e = (bytes, refl)
file_holds text NoEntry e = cc
file_holds text Folder e = cc
file_holds text Special e = cc

text_there : (v : View) (at : Path) (full : Option (List ℕ)) → is_some full ≡ true → holds v at full ≡ true → ShowsFile v at
text_there v at None some e = cc
text_there v at (Some text) some e = file_holds text (v at) e

pub right_is_file : (f : Format) (v : View) (dir : Directory) (file entry : Part) → IsFullTextOf f v dir file entry → ShowsFile v (child dir.folder file)
right_is_file f v dir file entry right =
    let s = f.stored dir.key right.name in
    let place : dir.folder ++ f.full_at s.name ≡ child dir.folder file = ap (λ e. dir.folder ++ f.full_at e) right.of.stores ∙ ap (λ p. dir.folder ++ p) right.beside in
    subst (ShowsFile v) place (text_there v (dir.folder ++ f.full_at s.name) s.full right.long right.of.full)

file_kind : (there : view.Found) (bytes : List ℕ) → there ≡ FileOf bytes → kind_found there ≡ kinds.File
file_kind there bytes e = ap kind_found e

module _ (f : Format) (v : View) (dir : Directory) (file : folder.Item) (in_folder : IsEntryIn v dir file) where
  kind_there : ShowsFile v (child dir.folder file.name) → file.kind ≡ kinds.File
  kind_there is_file = sym in_folder.kind ∙ file_kind (v (child dir.folder file.name)) is_file.0 is_file.1

  -- it isn't one
  pub side_none : (file.kind ≡ kinds.File → f.is_full file.name ≡ false) → IsSideOf f v dir file None
  side_none none = record { orphan = ((λ e. cc e), of_orphan); idle = ((λ e. cc e), of_idle); no_other = λ other e apart. cc e }
    where
      of_orphan : IsOrphanHere f v dir (child dir.folder file.name) → None ≡ Some is.OrphanLongName
      of_orphan o =
          let same : file.name ≡ o.file = child-last dir.folder file.name o.file o.place in
          let clash : true ≡ false = sym o.full ∙ ap f.is_full (sym same) ∙ none (kind_there o.there) in
          cc clash

      of_idle : IsIdleHere f v dir (child dir.folder file.name) → None ≡ Some is.EmptyOrphan
      of_idle i =
          let same : file.name ≡ i.file = child-last dir.folder file.name i.file i.place in
          let is_file : ShowsFile v (child dir.folder file.name) = subst (λ p. ShowsFile v (child dir.folder p)) (sym same) (right_is_file f v dir i.file i.entry i.right) in
          let clash : true ≡ false = sym i.full ∙ ap f.is_full (sym same) ∙ none (kind_there is_file) in
          cc clash

  file_at : (there : view.Found) → kind_found there ≡ kinds.File → (bytes : List ℕ) × (there ≡ FileOf bytes)
  file_at (FileOf bytes) e = (bytes, refl)
  file_at NoEntry e = cc
  file_at Folder e = cc
  file_at Special e = cc

  -- it has the text of no entry
  pub side_orphan : file.kind ≡ kinds.File → f.is_full file.name ≡ true → ((entry : Part) → ¬ IsFullTextOf f v dir file.name entry) → IsSideOf f v dir file (Some is.OrphanLongName)
  side_orphan is_file full wrong = record {
    orphan = ((λ e. record { file = file.name; place = refl; there = file_at (v (child dir.folder file.name)) (in_folder.kind ∙ is_file); full = full; wrong = wrong }), (λ o. refl));
    idle = ((λ e. cc e), of_idle);
    no_other = λ other e apart. absurd (apart (same other e));
  }
    where
      same : (other : Finding) → Some is.OrphanLongName ≡ Some other → other ≡ is.OrphanLongName
      same other e = cc

      of_idle : IsIdleHere f v dir (child dir.folder file.name) → Some is.OrphanLongName ≡ Some is.EmptyOrphan
      of_idle i =
          let name : file.name ≡ i.file = child-last dir.folder file.name i.file i.place in
          absurd (wrong i.entry (subst (λ p. IsFullTextOf f v dir p i.entry) (sym name) i.right))

  module _ (entry : Part) (right : IsFullTextOf f v dir file.name entry) where
    not_orphan : IsOrphanHere f v dir (child dir.folder file.name) → ⊥
    not_orphan o = o.wrong entry (subst (λ p. IsFullTextOf f v dir p entry) (child-last dir.folder file.name o.file o.place) right)

    -- it has the text of an entry that is there
    side_there : ((other : Part) → IsFullTextOf f v dir file.name other → other ≡ entry) → v (child dir.folder entry) ≢ NoEntry → IsSideOf f v dir file None
    side_there one some = record {
      orphan = ((λ e. cc e), (λ o. absurd (not_orphan o)));
      idle = ((λ e. cc e), (λ i. absurd (some (alone i))));
      no_other = λ other e apart. cc e;
    }
      where
        alone : IsIdleHere f v dir (child dir.folder file.name) → v (child dir.folder entry) ≡ NoEntry
        alone i =
            let name : file.name ≡ i.file = child-last dir.folder file.name i.file i.place in
            ap (λ p. v (child dir.folder p)) (sym (one i.entry (subst (λ p. IsFullTextOf f v dir p i.entry) (sym name) i.right))) ∙ i.alone

    side_alone : f.is_full file.name ≡ true → v (child dir.folder entry) ≡ NoEntry → IsSideOf f v dir file (Some is.EmptyOrphan)
    side_alone full alone = record {
      orphan = ((λ e. cc e), (λ o. absurd (not_orphan o)));
      idle = ((λ e. record { file = file.name; entry = entry; place = refl; full = full; right = right; alone = alone }), (λ i. refl));
      no_other = λ other e apart. same other e;
    }
      where
        same : (other : Finding) → Some is.EmptyOrphan ≡ Some other → other ≡ is.EmptyOrphan
        same other e = cc

    -- it has the text of an entry, by what is there
    pub side_right : f.is_full file.name ≡ true → ((other : Part) → IsFullTextOf f v dir file.name other → other ≡ entry)
        → (there : view.Found) → v (child dir.folder entry) ≡ there → IsSideOf f v dir file (idle_by there)
    side_right full one NoEntry is_there = side_alone full is_there
    side_right full one Folder is_there = side_there one (λ e. let clash : Folder ≡ NoEntry = sym is_there ∙ e in cc clash)
    side_right full one (FileOf bytes) is_there = side_there one (λ e. let clash : FileOf bytes ≡ NoEntry = sym is_there ∙ e in cc clash)
    side_right full one Special is_there = side_there one (λ e. let clash : Special ≡ NoEntry = sym is_there ∙ e in cc clash)
