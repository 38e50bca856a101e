-- What each exit of a call that stages and publishes says.
use Rattle.std.proofs.Common.{◌≡◌, ◌≢◌, ◌⊎◌, ℕ, List, [], ◌∷◌, Option, Some, None, Result, Ok, IfSome, refl, sym, ap, ◌∙◌, subst, inl, inr}
use Rattle.folder_spec.specs.declared.Kind.{Kind}
use Rattle.folder_spec.specs.declared.Kind.TheVariants.{File}
use Rattle.folder_spec.specs.declared.FolderFault.{FolderFault}
use Rattle.folder_spec.specs.declared.Spot.TheVariants.{FileNode}
use Rattle.folder_spec.specs.Path.{Path, below}
use Rattle.folder_spec.specs.State.{State, present, HasFile, IsSound}
use Rattle.folder_spec.specs.Event.{Rename, IsFree, IsFilePlace, Allowed, Told, Changes, FromTo}
use Rattle.folder_spec.specs.Region.{IsAsBefore, apart_from}
use Rattle.folder_spec.specs.View.{Found, NoEntry, Folder, FileOf, Special, kind_found}
use Rattle.folder_spec.specs.Seen.{IfSeen, IsSeen, ShowsFilePlace, seen}
use Rattle.folder_spec.proofs.Seen.{free_seen, has_file_seen, file_place_seen}
use Rattle.folder_spec.specs.Replace.{IsNewFile}
use Rattle.folder_spec.proofs.Tellings.{from_to_both}
use Rattle.folder_spec.proofs.Stages.{Staging, IsStagedFile, Replacing, IsRenamed, staging_so_far, place_stays, renaming_from, renamed_from}
use Rattle.folder_model.specs.Answers.{Answers}
use Rattle.folder_staging.specs.Places.{MayPublish}

-- what stands where a call found a file, or none
pub found_file : (t u : Option Told) (at : Path) (kind : Kind) → kind ≡ File → u ≡ t → Answers t (λ v. Unit {0}) (λ v k. k ≡ kind_found (v at)) (Ok kind)
    → (a : Told) → u ≡ Some a → HasFile (present a.state) at
found_file t u at kind is_file same answer a is =
    let here : kind ≡ kind_found (seen a.state at) = (answer (seen a.state) (subst (λ o. IsSeen o (seen a.state)) (sym is ∙ same) refl)).1 in
    has_file_seen a.state at (by_kind (seen a.state at) (sym is_file ∙ here))
  where
    by_kind : (x : Found) → File ≡ kind_found x → (bytes : List ℕ) × (x ≡ FileOf bytes)
    by_kind (FileOf bytes) e = (bytes, refl)
    by_kind NoEntry e = cc
    by_kind Folder e = cc
    by_kind Special e = cc

pub found_free : (t u : Option Told) (at : Path) (kind : Kind) → kind ≢ File → u ≡ t → Answers t (λ v. Unit {0}) (λ v k. k ≡ kind_found (v at)) (Ok kind)
    → IfSeen t (λ v. ShowsFilePlace v at) → FromTo (λ a b. IsFree (present b.state) at) t u
found_free None u at kind apart same answer place = subst (FromTo (λ a b. IsFree (present b.state) at) None) (sym same) tt
found_free (Some a) u at kind apart same answer place =
    subst (FromTo (λ a b. IsFree (present b.state) at) (Some a)) (sym same)
    (elim (place (seen a.state) refl) [
      | inl free ↦ free_seen a.state at free
      | inr file ↦ absurd (apart ((answer (seen a.state) refl).1 ∙ ap kind_found file.1))
    ])

-- A staged file may be renamed onto a place for one.
pub rename_allowed : (staged at : Path) (bytes : List ℕ) (s0 s : State) → staged ≢ [] → below staged at ≡ None → IsAsBefore (apart_from staged) s0 s
    → IsNewFile bytes s0 s (present s staged) → IsFilePlace (present s0) at → Allowed s (Rename staged at)
rename_allowed staged at bytes s0 s some apart others new place = (
  some,
  λ none. (let file : present s staged ≡ FileNode new.number = new.is in cc),
  apart,
  elim (place_stays staged at bytes apart s0 s others place) as (λ _. IsFree (present s) at ⊎ (HasFile (present s) staged × HasFile (present s) at)) [
    | inl free ↦ inl free
    | inr there ↦ inr ((new.number, new.is), there)
  ],
)

-- A file is staged, and renamed onto its place.
module _ (staged at : Path) (bytes : List ℕ) (t0 t1 : Option Told) (may : MayPublish t0 staged at)
    (sound : (a : Told) → t0 ≡ Some a → IsSound a.state) (sound_now : (a : Told) → t1 ≡ Some a → IsSound a.state) (stages : FromTo (Staging (bytes ∷ []) staged) t0 t1)
    (new : FromTo (λ a b. IsNewFile bytes a.state b.state (present b.state staged)) t0 t1) where
  so_far : FromTo (IsStagedFile staged bytes) t0 t1
  so_far = from_to_both (Staging (bytes ∷ []) staged) (λ a b. IsNewFile bytes a.state b.state (present b.state staged)) t0 t1 stages new

  pub staged_allowed : (a : Told) → t1 ≡ Some a → Allowed a.state (Rename staged at)
  staged_allowed = by_told t0 t1 so_far (file_place_seen t0 at may.place)
    where
      by_told : (t u : Option Told) → FromTo (IsStagedFile staged bytes) t u → IfSome t (λ a. IsFilePlace (present a.state) at) → (a : Told) → u ≡ Some a → Allowed a.state (Rename staged at)
      by_told (Some a) (Some b) h place c is =
          let same : b ≡ c = cc is in
          subst (λ (d : Told). Allowed d.state (Rename staged at)) same
          (rename_allowed staged at bytes a.state b.state may.stage.below_base may.apart.apart (staging_so_far (bytes ∷ []) staged a b h.0).others h.1 place)
      by_told None (Some b) h place c is = absurd h
      by_told t None h place c is = cc is

  pub staged_renames : (t2 : Option Told) (result : Result (Unit {0}) FolderFault) → Changes (Rename staged at) t1 t2 result → FromTo (Replacing staged at bytes) t0 t2
  staged_renames t2 result changes = renaming_from staged at bytes may.apart.apart t0 t1 t2 result may.apart.beside sound sound_now staged_allowed so_far changes

  pub staged_renamed : (t2 : Option Told) → Changes (Rename staged at) t1 t2 (Ok tt) → FromTo (IsRenamed staged at bytes) t0 t2
  staged_renamed t2 changes = renamed_from staged at bytes may.apart.apart t0 t1 t2 may.apart.beside sound sound_now staged_allowed so_far changes
