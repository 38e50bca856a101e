-- A directory is staged with its key file, and with the text of a long name, and comes to its place.
use Rattle.std.specs.Prelude.{Contains}
use Rattle.std.specs.Result.{IsErr}
use Rattle.std.proofs.Common.{arith, true, false, Bool, zero, suc, ◌≡◌, ◌≢◌, ℕ, List, [], ◌∷◌, ◌++◌, Option, Some, None, Result, Ok, Err, OnOk, refl, sym, ap, ◌∙◌, inl, subst, cond, bytes_eq, append-nil}
use Rattle.std.proofs.lemmas.List.Elements.{Contains-append_right}
use Rattle.std.proofs.lemmas.Slice.Eq.{bytes_eq-Decides}
use Rattle.folder_spec.specs.declared.FolderFault.{FolderFault}
use Rattle.folder_spec.specs.Path.{Part, Path, child}
use Rattle.folder_spec.specs.State.{present, IsSound}
use Rattle.folder_spec.specs.Edit.{Edit, file_edit, folder_edit, folder_view, IsStagedView}
use Rattle.folder_spec.specs.Event.{Rename, Allowed, Told, Changes, FromTo}
use Rattle.folder_spec.specs.Replace.{IsNewFile}
use Rattle.folder_spec.specs.Seen.{IfSeen, ShowsFree}
use Rattle.folder_spec.specs.View.{NoEntry, Folder, FileOf, View}
use Rattle.folder_spec.proofs.Paths.{parent-child, child-not_base}
use Rattle.folder_spec.proofs.Stages.{Staging, staging_more}
use Rattle.folder_spec.proofs.Tellings.{from_to_more, from_to_both, from_to_then}
use Rattle.folder_staging.specs.Folders.{StagesFolder, HasStaged, IsStagedFolder}
use Rattle.folder_staging.specs.Pieces.{Stages}
use Rattle.folder_staging.specs.Places.{IsStage}
use Rattle.work_folder.specs.Entries.{stage_path}
use Rattle.vault_spec.specs.Cryptomator.{full_file, full_files}
use Rattle.vault_spec.specs.Making.{full_texts}
use Rattle.vault_write.specs.Editing.{AddsEdits, AddsName, MayBePut, side_edits}
use Rattle.vault_write.proofs.Edited.{StagingAt}
use Rattle.vault_write.proofs.Adding.{adds_staging, adds_renamed, IsStagedWhole, free_in_stage, renames_allowed}

-- the laws of what is staged
abbrev pub AreSeen : Type 0
AreSeen = (contents : List (List ℕ)) (at : Path) (made : View) (before now : Option Told) → HasStaged contents at made before now → IfSeen now (λ v. (rest : Path) → v (at ++ rest) ≡ made rest)

abbrev pub Are : Type 0
Are = (contents : List (List ℕ)) (at : Path) (name : Part) (files : List (Part × List ℕ)) (before mid now : Option Told) → IsStagedFolder contents at files before mid → Stages contents (child at name) mid now → StagesFolder contents at before now

abbrev pub Gain : Type 0
Gain = (contents : List (List ℕ)) (at : Path) (name : Part) (bytes : List ℕ) (files : List (Part × List ℕ)) (before mid now : Option Told) → ((a : Told) → mid ≡ Some a → IsSound a.state) → ((a : Told) → now ≡ Some a → IsSound a.state)
    → IsStagedFolder contents at files before mid → Stages contents (child at name) mid now → FromTo (λ a b. IsNewFile bytes a.state b.state (present b.state (child at name))) mid now → IsStagedFolder contents at ((name, bytes) ∷ files) before now

-- a place in a staged directory
pub free_in : (at : Path) (name : Part) (made v : View) → ((rest : Path) → v (at ++ rest) ≡ made rest) → made [] ≡ Folder → made (name ∷ []) ≡ NoEntry → ShowsFree v (child at name)
free_in at name made v seen_so folder free = (seen_so (name ∷ []) ∙ free, ap v (parent-child at name ∙ sym (append-nil at)) ∙ seen_so [] ∙ folder)

pub place_in : AreSeen → (staged at : Path) (name : Part) (t u : Option Told) → at ≡ child staged name → IsStagedFolder [] staged [] t u → IsStage u at
place_in seen_law staged at name t u is begun = record {
  below_base = λ base. child-not_base staged name (sym is ∙ base);
  place = λ v is_seen. inl (subst (ShowsFree v) (sym is) (free_in staged name (folder_view []) v (seen_law [] staged (folder_view []) t u begun v is_seen) refl refl));
}

one_of : (files : List (List ℕ)) (key : List ℕ) → Contains files key → (file : List ℕ) → Contains (key ∷ []) file → Contains files file
one_of files key among file (zero, lt, at) = subst (Contains files) at among
one_of files key among file (suc k, lt, at) = absurd (omega (arith, lt))

stages_among : (files : List (List ℕ)) (at : Path) (bytes : List ℕ) (t u : Option Told) → Contains files bytes → Stages (bytes ∷ []) at t u → Stages files at t u
stages_among files at bytes t u among stages = from_to_more (Staging (bytes ∷ []) at) (Staging files at) t u (λ a b is k. staging_more (bytes ∷ []) files at a b (one_of files bytes among) k) stages

-- a file is added, or not
pub gains : Are → Gain → (staged at : Path) (name : Part) (bytes : List ℕ) (contents : List (List ℕ)) (files : List (Part × List ℕ)) (t u w : Option Told) (result : Result (Unit {0}) FolderFault)
    → at ≡ child staged name → ((a : Told) → u ≡ Some a → IsSound a.state) → ((a : Told) → w ≡ Some a → IsSound a.state) → Contains contents bytes
    → IsStagedFolder contents staged files t u → Stages (bytes ∷ []) at u w → OnOk result (FromTo (λ a b. IsNewFile bytes a.state b.state (present b.state at)) u w)
    → StagesFolder contents staged t w × OnOk result (IsStagedFolder contents staged ((name, bytes) ∷ files) t w)
gains are gain staged at name bytes contents files t u w (Err fault) is sound sound_then among before stages new =
    (are contents staged name files t u w before (stages_among contents (child staged name) bytes u w among (subst (λ p. Stages (bytes ∷ []) p u w) is stages)), tt)
gains are gain staged at name bytes contents files t u w (Ok value) is sound sound_then among before stages new = (
  are contents staged name files t u w before (stages_among contents (child staged name) bytes u w among (subst (λ p. Stages (bytes ∷ []) p u w) is stages)),
  gain contents staged name bytes files t u w sound sound_then before (stages_among contents (child staged name) bytes u w among (subst (λ p. Stages (bytes ∷ []) p u w) is stages))
      (subst (λ p. FromTo (λ a b. IsNewFile bytes a.state b.state (present b.state p)) u w) is new),
)

-- ---- the directory comes to its place

pub key_among : (full : Option (List ℕ)) (key : List ℕ) → Contains (full_texts full ++ key ∷ []) key
key_among full key = Contains-append_right (full_texts full) (key ∷ []) key (zero, omega arith, refl)

pub name_among : (full : Option (List ℕ)) (key text : List ℕ) → full ≡ Some text → Contains (full_texts full ++ key ∷ []) text
name_among (Some other) key text is = let same : other ≡ text = cc in subst (λ x. Contains (full_texts (Some other) ++ key ∷ []) x) same (zero, omega arith, refl)
name_among None key text is = cc

-- where something in it failed
pub directory_failed : (work : Path) (x : Part) (staged : Path) (edits : List Edit) (files : List (List ℕ)) (t u : Option Told) (result : Result (Unit {0}) FolderFault) → staged ≡ child (stage_path work) x → IsErr result
    → StagesFolder files staged t u → AddsEdits None work edits files t u result
directory_failed work x staged edits files t u (Err fault) is err stages = adds_staging None work x edits files t u fault (subst (λ p. StagesFolder files p t u) is stages)
directory_failed work x staged edits files t u (Ok value) is err stages = let clash : false ≡ true = err in cc

-- the text of a long name has its place in it
pub name_place : AreSeen → (staged : Path) (contents : List (List ℕ)) (key_name : Part) (key : List ℕ) (t u : Option Told) → key_name ≢ full_file
    → IsStagedFolder contents staged ((key_name, key) ∷ []) t u → IfSeen u (λ v. ShowsFree v (child staged full_file))
name_place seen_law staged contents key_name key t u apart whole v is_seen =
    free_in staged full_file (folder_view ((key_name, key) ∷ [])) v (seen_law contents staged (folder_view ((key_name, key) ∷ [])) t u whole v is_seen) refl
    (ap (λ b. cond b (FileOf key) NoEntry) (not_same (bytes_eq key_name full_file) (λ same. apart ((bytes_eq-Decides key_name full_file).0 same))))
  where
    not_same : (b : Bool) → (b ≡ true → ⊥) → b ≡ false
    not_same true never = absurd (never refl)
    not_same false never = refl

pub whole_staged : (files : List (List ℕ)) (staged : Path) (made : View) (t u : Option Told) → ((a : Told) → u ≡ Some a → IsSound a.state) → HasStaged files staged made t u → FromTo (IsStagedWhole files staged made) t u
whole_staged files staged made t u sound whole =
    from_to_more (λ a b. (StagingAt files staged a b × IsStagedView b.state (present b.state) staged made) × IsSound b.state) (IsStagedWhole files staged made) t u (λ a b is k. (k.0.0, k.0.1, k.1))
    (from_to_then (λ a b. StagingAt files staged a b × IsStagedView b.state (present b.state) staged made) (λ b. IsSound b.state) t u sound
    (from_to_both (StagingAt files staged) (λ a b. IsStagedView b.state (present b.state) staged made) t u whole.stages whole.whole))

pub directory_renamed : (work : Path) (x : Part) (staged at : Path) (entries : List (Part × List ℕ)) (files : List (List ℕ)) (t u w : Option Told) (result : Result (Unit {0}) FolderFault) → staged ≡ child (stage_path work) x
    → ((a : Told) → u ≡ Some a → IsSound a.state) → IfSeen t (λ v. MayBePut v work at) → IsStagedFolder files staged entries t u → Changes (Rename staged at) u w result
    → AddsEdits None work (folder_edit at entries ∷ []) files t w result
directory_renamed work x staged at entries files t u w result is sound may whole changes =
    adds_renamed None work x (folder_edit at entries) files t u w result tt
    (subst (λ p. FromTo (IsStagedWhole files p (folder_view entries)) t u) is (whole_staged files staged (folder_view entries) t u sound whole))
    (λ v seen_so. (may v seen_so).free) (subst (λ p. Changes (Rename p at) u w result) is changes)

pub directory_may : (work : Path) (x : Part) (staged at : Path) (entries : List (Part × List ℕ)) (files : List (List ℕ)) (t u : Option Told) → staged ≡ child (stage_path work) x
    → ((a : Told) → t ≡ Some a → IsSound a.state) → ((a : Told) → u ≡ Some a → IsSound a.state) → IfSeen t (λ v. MayBePut v work at) → IsStagedFolder files staged entries t u
    → (b : Told) → u ≡ Some b → Allowed b.state (Rename staged at)
directory_may work x staged at entries files t u is sound sound_now may whole b there =
    subst (λ p. Allowed b.state (Rename p at)) (sym is)
    (renames_allowed work at x files (folder_view entries) t u sound (λ v seen_so. ((may v seen_so).free, (may v seen_so).apart)) (λ none. cc)
    (subst (λ p. FromTo (IsStagedWhole files p (folder_view entries)) t u) is (whole_staged files staged (folder_view entries) t u sound_now whole)) b there)

pub directory_free : (work : Path) (x : Part) (staged at : Path) (t : Option Told) → staged ≡ child (stage_path work) x → IfSeen t (λ v. MayBePut v work at) → IfSeen t (λ v. ShowsFree v staged)
directory_free work x staged at t is may v is_seen = subst (ShowsFree v) (sym is) (free_in_stage work x v (may v is_seen).ready)

pub key_staged : (full : Option (List ℕ)) (staged : Path) (key_name : Part) (key : List ℕ) (t u : Option Told) (result : Result (Unit {0}) FolderFault)
    → ((files : List (List ℕ)) → Contains files key → StagesFolder files staged t u × OnOk result (IsStagedFolder files staged ((key_name, key) ∷ []) t u))
    → StagesFolder (full_texts full ++ key ∷ []) staged t u × OnOk result (IsStagedFolder (full_texts full ++ key ∷ []) staged ((key_name, key) ∷ []) t u)
key_staged full staged key_name key t u result stages = stages (full_texts full ++ key ∷ []) (key_among full key)

-- ---- what a text is, by how it is read

pub name_gains : Are → Gain → (staged at : Path) (full : Option (List ℕ)) (text bytes : List ℕ) (t u : Option Told) (result : Result (Unit {0}) FolderFault)
    → full ≡ Some text → bytes ≡ text → at ≡ child staged full_file → ((a : Told) → t ≡ Some a → IsSound a.state) → ((a : Told) → u ≡ Some a → IsSound a.state)
    → Stages (bytes ∷ []) at t u → OnOk result (FromTo (λ a b. IsNewFile bytes a.state b.state (present b.state at)) t u) → AddsName staged full t u result
name_gains are gain staged at full text bytes t u result is_full same is sound sound_then stages new before contents files among whole =
    subst (λ o. StagesFolder contents staged before u × OnOk result (IsStagedFolder contents staged (full_files o ++ files) before u)) (sym is_full)
    (subst (λ b. StagesFolder contents staged before u × OnOk result (IsStagedFolder contents staged ((full_file, b) ∷ files) before u)) same
    (gains are gain staged at full_file bytes contents files before t u result is sound sound_then (subst (Contains contents) (sym same) (among text is_full)) whole stages new))

pub side_adds : (held : Option View) (work at : Path) (wants : Bool) (full : Option (List ℕ)) (text bytes : List ℕ) (t u : Option Told) (result : Result (Unit {0}) FolderFault) → wants ≡ true → full ≡ Some text → bytes ≡ text
    → AddsEdits held work (file_edit at bytes ∷ []) (bytes ∷ []) t u result → AddsEdits held work (side_edits wants at full) (full_texts full) t u result
side_adds held work at wants full text bytes t u result is_wanted is_full same adds =
    subst (λ y. AddsEdits held work (side_edits y at full) (full_texts full) t u result) (sym is_wanted) (subst (λ o. AddsEdits held work (side_edits true at o) (full_texts o) t u result) (sym is_full) (subst (λ b. AddsEdits held work (file_edit at b ∷ []) (b ∷ []) t u result) same adds))
