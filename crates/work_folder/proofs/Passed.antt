-- What stands where all tests of a work folder pass.
use Rattle.std.specs.Prelude.{codes}
use Rattle.std.proofs.Common.{◌≡◌, ◌≢◌, ◌⊎◌, ℕ, true, false, List, [], ◌||◌, not, Option, Some, Ok, refl, sym, ap, ◌∙◌, inl, inr, bytes_eq}
use Rattle.std.proofs.lemmas.Slice.Eq.{bytes_eq-Decides}
use Rattle.folder_spec.specs.Path.{Part, Path, parent, child}
use Rattle.folder_spec.specs.State.{IsSound}
use Rattle.folder_spec.specs.Event.{Told}
use Rattle.folder_spec.specs.View.{Found, NoEntry, Folder, FileOf, Special, View, kind_found}
use Rattle.folder_spec.specs.Seen.{IfSeen, ShowsFree, ShowsNothingOrFile}
use Rattle.work_folder.specs.Entries.{journal_path, new_journal_path, stage_path, is_foreign, IsForeign, HasNoForeign}
use Rattle.work_folder.specs.Looking.{TestsEntries, TestsJournal, TestsKind, TestsParent, Tests}
use Rattle.work_folder.proofs.Steps.{bare_below}

pub record Passed (v : View) (work : Path) : Type 0 where
  pub parent : v (parent work) ≡ Folder
  pub place : (v work ≡ NoEntry) ⊎ (v work ≡ Folder)
  pub clean : HasNoForeign false v work
  pub begun : (bytes : List ℕ) → v (journal_path work) ≢ FileOf bytes

parent_passed : (x : Found) (v : View) (work : Path) → TestsParent x v work (Ok tt) → (x ≡ Folder) × TestsKind (v work) v work (Ok tt)
parent_passed Folder v work h = (refl, h)
parent_passed NoEntry v work h = cc h
parent_passed (FileOf bytes) v work h = cc h
parent_passed Special v work h = cc h

kind_passed : (x : Found) (v : View) (work : Path) → TestsKind x v work (Ok tt) → (x ≡ NoEntry) ⊎ ((x ≡ Folder) × TestsJournal (v (journal_path work)) v work (Ok tt))
kind_passed NoEntry v work h = inl refl
kind_passed Folder v work h = inr (refl, h)
kind_passed (FileOf bytes) v work h = cc h
kind_passed Special v work h = cc h

entries_passed : (v : View) (work : Path) → TestsEntries false v work (Ok tt) → HasNoForeign false v work
entries_passed v work h = elim h [ inl none ↦ none.0 | inr some ↦ cc (some.2) ]

journal_passed : (x : Found) (v : View) (work : Path) → TestsJournal x v work (Ok tt) → ((bytes : List ℕ) → x ≢ FileOf bytes) × HasNoForeign false v work
journal_passed NoEntry v work h = (λ bytes e. cc e, entries_passed v work h)
journal_passed Folder v work h = (λ bytes e. cc e, entries_passed v work h)
journal_passed Special v work h = (λ bytes e. cc e, entries_passed v work h)
journal_passed (FileOf bytes) v work h = cc h

-- nothing is foreign where nothing stands
none_foreign : (v : View) (work : Path) (name : Part) → v (child work name) ≡ NoEntry → ¬ IsForeign false v work name
none_foreign v work name none foreign =
    let no_ : is_foreign false name (kind_found (v (child work name))) ≡ false = ap (λ x. is_foreign false name (kind_found x)) none in cc

pub passed : (t : Option Told) → ((a : Told) → t ≡ Some a → IsSound a.state) → IfSeen t (λ v. (work : Path) → Tests v work (Ok tt) → Passed v work)
passed t sound v is work tests = by_kind (kind_passed (v work) v work up.1)
  where
    up : (v (parent work) ≡ Folder) × TestsKind (v work) v work (Ok tt)
    up = parent_passed (v (parent work)) v work tests

    by_kind : ((v work ≡ NoEntry) ⊎ ((v work ≡ Folder) × TestsJournal (v (journal_path work)) v work (Ok tt))) → Passed v work
    by_kind (inl none) = record {
      parent = up.0;
      place = inl none;
      clean = λ name foreign. none_foreign v work name (bare_below t sound v is work name [] (λ dir. let both : NoEntry ≡ Folder = sym none ∙ dir in cc)) foreign;
      begun = λ bytes e.
          let nothing : v (journal_path work) ≡ NoEntry = bare_below t sound v is work (codes "journal") [] (λ dir. let both : NoEntry ≡ Folder = sym none ∙ dir in cc) in
          let both : NoEntry ≡ FileOf bytes = sym nothing ∙ e in cc;
    }
    by_kind (inr dir) =
        let inside : ((bytes : List ℕ) → v (journal_path work) ≢ FileOf bytes) × HasNoForeign false v work = journal_passed (v (journal_path work)) v work dir.1 in
        record { parent = up.0; place = inr dir.0; clean = inside.1; begun = inside.0 }

module _ (v : View) (work : Path) (h : Passed v work) where
  pub work_place : (v work ≡ Folder) ⊎ ShowsFree v work
  work_place = elim h.place as (λ _. (v work ≡ Folder) ⊎ ShowsFree v work) [ inl none ↦ inr (none, h.parent) | inr dir ↦ inl dir ]

  pub new_journal_place : ShowsNothingOrFile v (new_journal_path work)
  new_journal_place = at (v (new_journal_path work)) refl
    where
      at : (x : Found) → v (new_journal_path work) ≡ x → ShowsNothingOrFile v (new_journal_path work)
      at NoEntry e = inl e
      at (FileOf bytes) e = inr (bytes, e)
      at Folder e = absurd (h.clean (codes "journal.new") (ap (λ x. is_foreign false (codes "journal.new") (kind_found x)) e))
      at Special e = absurd (h.clean (codes "journal.new") (ap (λ x. is_foreign false (codes "journal.new") (kind_found x)) e))

  pub stage_place : (v (stage_path work) ≡ NoEntry) ⊎ (v (stage_path work) ≡ Folder)
  stage_place = at (v (stage_path work)) refl
    where
      at : (x : Found) → v (stage_path work) ≡ x → (v (stage_path work) ≡ NoEntry) ⊎ (v (stage_path work) ≡ Folder)
      at NoEntry e = inl e
      at Folder e = inr e
      at (FileOf bytes) e = absurd (h.clean (codes "stage") (ap (λ x. is_foreign false (codes "stage") (kind_found x)) e))
      at Special e = absurd (h.clean (codes "stage") (ap (λ x. is_foreign false (codes "stage") (kind_found x)) e))

  pub others_missing : (name : Part) → name ≢ codes "stage" → name ≢ codes "journal.new" → v (child work name) ≡ NoEntry
  others_missing name not_stage not_new = at (v (child work name)) refl
    where
      apart : (other : Part) → name ≢ other → bytes_eq name other ≡ false
      apart other other_name = elim (bytes_eq name other) as (λ b. bytes_eq name other ≡ b → b ≡ false) [
        | true ↦ λ e. absurd (other_name ((bytes_eq-Decides name other).0 e))
        | false ↦ λ e. refl
      ] refl

      at : (x : Found) → v (child work name) ≡ x → v (child work name) ≡ NoEntry
      at NoEntry e = e
      at Folder e = absurd (h.clean name (ap (λ x. is_foreign false name (kind_found x)) e ∙ ap (λ b. not (b || false)) (apart (codes "stage") not_stage)))
      at Special e = absurd (h.clean name (ap (λ x. is_foreign false name (kind_found x)) e))
      at (FileOf bytes) e = absurd (h.clean name (ap (λ x. is_foreign false name (kind_found x)) e ∙ ap (λ b. not (b || bytes_eq name (codes "journal.new"))) (apart (codes "journal") not_journal)
          ∙ ap (λ b. not (false || b)) (apart (codes "journal.new") not_new)))
        where
          not_journal : name ≢ codes "journal"
          not_journal same = h.begun bytes (ap (λ n. v (child work n)) (sym same) ∙ e)
