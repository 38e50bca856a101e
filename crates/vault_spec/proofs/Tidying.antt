-- The edits of an item leave nothing over, where they bring nothing idle, and nor does a content that is replaced.
use Rattle.std.proofs.Common.{◌≡◌, ◌≢◌, ◌⊎◌, ℕ, true, false, List, [], ◌∷◌, ◌++◌, sym, ap, ◌∙◌, inl, inr, append-nil, Some, None, Option, is_some}
use Rattle.folder_spec.specs.Path.{Part, Path, child}
use Rattle.folder_spec.specs.View.{NoEntry, FileOf, View}
use Rattle.folder_spec.specs.Edit.{Edit, edited, file_edit, view_after}
use Rattle.folder_spec.proofs.Paths.{one_or_not}
use Rattle.vault_spec.specs.Format.{Format, Directory, Expected, ContentFolder, file_bytes}
use Rattle.vault_spec.specs.Standing.{is_file_of, holds}
use Rattle.vault_spec.specs.Reached.{Leads}
use Rattle.vault_spec.specs.Findings.{IsFixed, IsFullTextOf, IsIdleName, IsIdleFolder}
use Rattle.vault_spec.specs.Tidy.{ReplacedContentsStayTidy, StaysTidy}
use Rattle.vault_spec.proofs.Lawful.{IsLawful}
use Rattle.vault_spec.proofs.Grafts.{holds_by}
use Rattle.vault_spec.proofs.Places.{none_or_there, brought_there}
use Rattle.vault_spec.proofs.Replacing.{IsReplaced, replaced_elsewhere, where_file_stands}
use Rattle.vault_spec.proofs.ReplacedClean as replaced
use Rattle.vault_spec.proofs.StaysClean.{KeepsClean, KeepEach, was, was_below, stays, folder_stands}

-- a long-name file with its text is there
held_there : (w : View) (at : Path) (full : Option (List ℕ)) → is_some full ≡ true → holds w at full ≡ true → w at ≢ NoEntry
held_there w at None long held none = cc
held_there w at (Some text) long held none =
    let no_file : is_file_of text (file_bytes NoEntry) ≡ true = ap (λ x. is_file_of text (file_bytes x)) (sym none) ∙ held in cc

text_place : (f : Format) (w : View) (dir : Directory) (file entry : Part) → (text : IsFullTextOf f w dir file entry)
    → dir.folder ++ f.full_at (f.stored dir.key text.name).name ≡ child dir.folder file
text_place f w dir file entry text = ap (λ x. dir.folder ++ f.full_at x) text.of.stores ∙ ap (λ r. dir.folder ++ r) text.beside

pub text_there : (f : Format) (w : View) (dir : Directory) (file entry : Part) → IsFullTextOf f w dir file entry → w (child dir.folder file) ≢ NoEntry
text_there f w dir file entry text none =
    held_there w (dir.folder ++ f.full_at (f.stored dir.key text.name).name) (f.stored dir.key text.name).full text.long text.of.full
    (ap w (text_place f w dir file entry text) ∙ none)

-- it has its text where it is the same
text_back : (f : Format) (v w : View) (dir : Directory) (file entry : Part) → v (child dir.folder file) ≡ w (child dir.folder file) → IsFullTextOf f w dir file entry → IsFullTextOf f v dir file entry
text_back f v w dir file entry same text = record {
  name = text.name;
  of = record {
    named = text.of.named;
    stores = text.of.stores;
    full = holds_by v w (dir.folder ++ f.full_at (f.stored dir.key text.name).name) (f.stored dir.key text.name).full
        (λ long. ap v (text_place f w dir file entry text) ∙ same ∙ ap w (sym (text_place f w dir file entry text))) ∙ text.of.full;
  };
  long = text.long;
  beside = text.beside;
}

-- what is idle after an edit was so, or is at its place
idle_name_back : (f : Format) (lawful : IsLawful f) (v : View) (e : Edit) → KeepsClean f lawful v e → (at : Path) → IsIdleName f (edited v e) at → IsIdleName f v at ⊎ (at ≡ e.at)
idle_name_back f lawful v e keeps at u = elim (keeps.back u.reached.0 u.dir u.reached.1) [
  | inr bare ↦ let clash : true ≡ false = sym u.full ∙ (bare.others u.file there).1 in cc
  | inl leads ↦ elim (was_below f lawful v e keeps u.dir.folder u.file (folder_stands f lawful v u.reached.0 u.dir leads) there) [
    | inr here ↦ inr (u.place ∙ here)
    | inl old ↦ inl (record {
      dir = u.dir;
      file = u.file;
      entry = u.entry;
      reached = (u.reached.0, leads);
      place = u.place;
      full = u.full;
      right = text_back f v (edited v e) u.dir u.file u.entry (sym (stays f lawful v e keeps (child u.dir.folder u.file) old)) u.right;
      alone = free (none_or_there (v (child u.dir.folder u.entry)));
    })
  ]
]
  where
    there : edited v e (child u.dir.folder u.file) ≢ NoEntry
    there = text_there f (edited v e) u.dir u.file u.entry u.right

    free : (v (child u.dir.folder u.entry) ≡ NoEntry) ⊎ (v (child u.dir.folder u.entry) ≢ NoEntry) → v (child u.dir.folder u.entry) ≡ NoEntry
    free (inl none) = none
    free (inr old) = absurd (old (sym (stays f lawful v e keeps (child u.dir.folder u.entry) old) ∙ u.alone))

idle_folder_back : (f : Format) (lawful : IsLawful f) (v : View) (e : Edit) → KeepsClean f lawful v e → (at : Path) → IsIdleFolder f (edited v e) at → IsIdleFolder f v at ⊎ (at ≡ e.at)
idle_folder_back f lawful v e keeps at u = elim (none_or_there (edited v e at)) [
  | inl none ↦ let clash : Expected ≡ ContentFolder = sym (lawful.no_role at) ∙ ap (f.role at) (sym none) ∙ u.loose.folder in cc
  | inr there ↦ elim (was v e at there) [
    | inr new ↦ inr (new.1 ∙ ap (λ r. e.at ++ r) (keeps.has.alone new.0 (ap (λ p. f.role p (edited v e p)) (sym new.1) ∙ u.loose.folder)) ∙ append-nil e.at)
    | inl old ↦ inl (record {
      loose = record {
        folder = ap (f.role at) (sym (stays f lawful v e keeps at old)) ∙ u.loose.folder;
        loose = λ dir reached. u.loose.loose dir (reached.0, keeps.on reached.0 dir reached.1);
      };
      fixed = λ entry there. fixed_back entry there (stays f lawful v e keeps (child at entry) there);
    })
  ]
]
  where
    fixed_back : (entry : Part) → v (child at entry) ≢ NoEntry → edited v e (child at entry) ≡ v (child at entry) → IsFixed f v at entry
    fixed_back entry there same =
        let fixed : IsFixed f (edited v e) at entry = u.fixed entry (λ none. there (sym same ∙ none)) in
        record { file = (fixed.file.0, sym same ∙ fixed.file.1); name = fixed.name }

-- an edit of the list is at the place
abbrev pub IsAt : List Edit → Path → Type 0
IsAt [] at = ⊥
IsAt (e ∷ edits) at = (at ≡ e.at) ⊎ IsAt edits at

-- what each edit leaves or brings is left by all edits, or is brought by one
all_back : (Idle : View → Path → Type 0) (f : Format) (lawful : IsLawful f) → ((v : View) (e : Edit) → KeepsClean f lawful v e → (at : Path) → Idle (edited v e) at → Idle v at ⊎ (at ≡ e.at))
    → (v : View) (edits : List Edit) → KeepEach f lawful v edits → (at : Path) → Idle (view_after v edits) at → Idle v at ⊎ IsAt edits at
all_back Idle f lawful back v [] keep at idle = inl idle
all_back Idle f lawful back v (e ∷ edits) keep at idle = elim (all_back Idle f lawful back (edited v e) edits keep.1 at idle) [
  | inr later ↦ inr (inr later)
  | inl idle_then ↦ elim (back v e keep.0 at idle_then) [
    | inl before ↦ inl before
    | inr here ↦ inr (inl here)
  ]
]

pub tidy_after : (f : Format) (lawful : IsLawful f) (v : View) (edits : List Edit) → KeepEach f lawful v edits
    → ((at : Path) → IsAt edits at → ¬ IsIdleName f (view_after v edits) at) → ((at : Path) → IsAt edits at → ¬ IsIdleFolder f (view_after v edits) at) → StaysTidy f v (view_after v edits)
tidy_after f lawful v edits keep no_name no_folder at tidy = record {
  name = λ idle. elim (all_back (IsIdleName f) f lawful (idle_name_back f lawful) v edits keep at idle) [ inl before ↦ tidy.name before | inr here ↦ no_name at here idle ];
  folder = λ idle. elim (all_back (IsIdleFolder f) f lawful (idle_folder_back f lawful) v edits keep at idle) [ inl before ↦ tidy.folder before | inr here ↦ no_folder at here idle ];
}

-- what the last edit brings is there
pub last_there : (v : View) (edits : List Edit) (e : Edit) → view_after v (edits ++ e ∷ []) e.at ≡ e.made []
last_there v [] e = brought_there v e
last_there v (first ∷ edits) e = last_there (edited v first) edits e

-- ---- where a content is replaced

nothing_back : (f : Format) (lawful : IsLawful f) (v : View) (at : Path) (old bytes : List ℕ) → IsReplaced f lawful v at old → (q : Path) → edited v (file_edit at bytes) q ≡ NoEntry → v q ≡ NoEntry
nothing_back f lawful v at old bytes r q none = elim (one_or_not q at) [
  | inl here ↦ let clash : FileOf bytes ≡ NoEntry = sym (brought_there v (file_edit at bytes)) ∙ ap (edited v (file_edit at bytes)) (sym here) ∙ none in cc
  | inr apart ↦ sym (replaced_elsewhere f lawful v at old bytes r q apart.0) ∙ none
]

replaced_tidy : (f : Format) (lawful : IsLawful f) (v : View) (at : Path) (old bytes : List ℕ) → IsReplaced f lawful v at old → StaysTidy f v (edited v (file_edit at bytes))
replaced_tidy f lawful v at old bytes r q tidy = record {
  name = λ u. tidy.name (name_back q u (replaced.led_back f lawful v at old bytes r u.reached.0 u.dir u.reached.1));
  folder = λ u. tidy.folder (folder_back q u);
}
  where
    name_back : (q : Path) → (u : IsIdleName f (edited v (file_edit at bytes)) q) → Leads f v u.reached.0 u.dir → IsIdleName f v q
    name_back q u leads = record {
      dir = u.dir;
      file = u.file;
      entry = u.entry;
      reached = (u.reached.0, leads);
      place = u.place;
      full = u.full;
      right = record {
        name = u.right.name;
        of = replaced.entry_back f lawful v at old bytes r u.reached.0 u.dir leads u.entry u.right.name u.right.of;
        long = u.right.long;
        beside = u.right.beside;
      };
      alone = nothing_back f lawful v at old bytes r (child u.dir.folder u.entry) u.alone;
    }

    fixed_back : (q : Path) (entry : Part) → IsFixed f (edited v (file_edit at bytes)) q entry → IsFixed f v q entry
    fixed_back q entry fixed = record { file = replaced.file_back f lawful v at old bytes r (child q entry) fixed.file; name = fixed.name }

    folder_back : (q : Path) → IsIdleFolder f (edited v (file_edit at bytes)) q → IsIdleFolder f v q
    folder_back q u = record {
      loose = record {
        folder = sym (replaced.by_file f lawful v at old bytes r (f.role q) (lawful.role_by_file q) q) ∙ u.loose.folder;
        loose = λ dir reached. u.loose.loose dir (reached.0, replaced.led_on f lawful v at old bytes r reached.0 dir reached.1);
      };
      fixed = λ entry there. fixed_back q entry (u.fixed entry (λ none. there (nothing_back f lawful v at old bytes r (child q entry) none)));
    }

-- so it is where a file stands
pub content_tidy : (f : Format) → IsLawful f → ReplacedContentsStayTidy f
content_tidy f lawful v p at bytes orderly stands =
    where_file_stands f lawful v p at (StaysTidy f v (edited v (file_edit at bytes))) orderly.folders stands (λ old r. replaced_tidy f lawful v at old bytes r)
