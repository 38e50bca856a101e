-- What is staged of a new vault, call by call.
use Rattle.std.proofs.Common.{◌≡◌, ◌⊎◌, ℕ, zero, suc, Bool, true, false, List, [], ◌∷◌, ◌++◌, take, drop, Option, Some, Result, Ok, Err, OnOk, refl, sym, ap, ◌∙◌, inl, inr, arith, append-nil, append_assoc, bytes_eq, cond}
use Rattle.std.specs.Prelude.{Contains}
use Rattle.folder_spec.specs.declared.FolderFault.{FolderFault}
use Rattle.folder_spec.specs.Path.{Part, Path, child}
use Rattle.folder_spec.specs.State.{present, IsSound}
use Rattle.folder_spec.specs.Event.{Told, FromTo}
use Rattle.folder_spec.specs.Edit.{edited, directory_edit, file_among, folder_view}
use Rattle.folder_spec.specs.Replace.{IsNewFile}
use Rattle.folder_spec.specs.Seen.{IfSeen, ShowsFilePlace, ShowsFree}
use Rattle.folder_spec.specs.View.{Found, NoEntry, Folder, FileOf, View}
use Rattle.folder_spec.proofs.Paths.{parent-child}
use Rattle.folder_staging.specs.Pieces.{Stages}
use Rattle.folder_staging.specs.Folders.{StagesFolder, HasStaged, IsStagedFolder}
use Rattle.vault_spec.specs.Cryptomator.{top, shelf_named, folder_named}
use Rattle.vault_write.specs.Founding.{StagesWhole, StagesHome, with_home}

-- the laws of what is staged
abbrev pub Sound : Option Told → Type 0
Sound t = (a : Told) → t ≡ Some a → IsSound a.state

abbrev pub MoreFiles : Type 0
MoreFiles = (files more : List (List ℕ)) (at : Path) (before now : Option Told) → ((file : List ℕ) → Contains files file → Contains more file) → Stages files at before now → Stages more at before now

abbrev pub AreSeen : Type 0
AreSeen = (contents : List (List ℕ)) (at : Path) (made : View) (before now : Option Told) → HasStaged contents at made before now → IfSeen now (λ v. (rest : Path) → v (at ++ rest) ≡ made rest)

abbrev pub FilesDuring : Type 0
FilesDuring = (contents : List (List ℕ)) (at : Path) (name : Part) (files : List (Part × List ℕ)) (before mid now : Option Told) → IsStagedFolder contents at files before mid
    → Stages contents (child at name) mid now → StagesFolder contents at before now

abbrev pub FilesGained : Type 0
FilesGained = (contents : List (List ℕ)) (at : Path) (name : Part) (bytes : List ℕ) (files : List (Part × List ℕ)) (before mid now : Option Told) → Sound mid → Sound now
    → IsStagedFolder contents at files before mid → Stages contents (child at name) mid now
    → FromTo (λ a b. IsNewFile bytes a.state b.state (present b.state (child at name))) mid now → IsStagedFolder contents at ((name, bytes) ∷ files) before now

abbrev pub During : Type 0
During = (contents : List (List ℕ)) (at rest : Path) (made : View) (before mid now : Option Told) → HasStaged contents at made before mid → StagesFolder contents (at ++ rest) mid now
    → StagesFolder contents at before now

abbrev pub DirectoryGained : Type 0
DirectoryGained = (contents : List (List ℕ)) (at rest : Path) (made : View) (before mid now : Option Told) → Sound mid → HasStaged contents at made before mid
    → IsStagedFolder contents (at ++ rest) [] mid now → HasStaged contents at (edited made (directory_edit rest)) before now

-- ---- files

one_of : (bytes file : List ℕ) → Contains (bytes ∷ []) file → bytes ≡ file
one_of bytes file (zero, lt, at) = at
one_of bytes file (suc k, lt, at) = absurd (omega (arith, lt))

file_by : (b : Bool) (bytes : List ℕ) (x : Found) → (x ≡ NoEntry) ⊎ ((more : List ℕ) × (x ≡ FileOf more)) → (cond b (FileOf bytes) x ≡ NoEntry) ⊎ ((more : List ℕ) × (cond b (FileOf bytes) x ≡ FileOf more))
file_by true bytes x next = inr (bytes, refl)
file_by false bytes x next = next

file_or_none : (files : List (Part × List ℕ)) (name : Part) → (file_among files name ≡ NoEntry) ⊎ ((bytes : List ℕ) × (file_among files name ≡ FileOf bytes))
file_or_none [] name = inl refl
file_or_none (f ∷ files) name = file_by (bytes_eq f.0 name) f.1 (file_among files name) (file_or_none files name)

root_seen : AreSeen → (contents : List (List ℕ)) (at : Path) (made : View) (t u : Option Told) → made [] ≡ Folder → HasStaged contents at made t u → IfSeen u (λ v. v at ≡ Folder)
root_seen law contents at made t u folder h v is = ap v (sym (append-nil at)) ∙ law contents at made t u h v is [] ∙ folder

pub place_in_staged : AreSeen → (contents : List (List ℕ)) (at : Path) (files : List (Part × List ℕ)) (t u : Option Told) (name : Part) → IsStagedFolder contents at files t u
    → IfSeen u (λ v. ShowsFilePlace v (child at name))
place_in_staged law contents at files t u name h v is = elim (file_or_none files name) as (λ _. ShowsFilePlace v (child at name)) [
  | inl none ↦ inl (law contents at (folder_view files) t u h v is (name ∷ []) ∙ none, ap v (parent-child at name) ∙ root_seen law contents at (folder_view files) t u refl h v is)
  | inr file ↦ inr (file.0, law contents at (folder_view files) t u h v is (name ∷ []) ∙ file.1)
]

module _ (more : MoreFiles) (during : FilesDuring) (gained : FilesGained) (staged : Path) (n1 b1 n2 b2 : List ℕ) (t0 t1 t2 : Option Told)
    (begun : (contents : List (List ℕ)) → IsStagedFolder contents staged [] t0 t1) (first : Stages (b1 ∷ []) (child staged n1) t1 t2) where
  within_first : (contents : List (List ℕ)) → ((file : List ℕ) → Contains (b2 ∷ b1 ∷ []) file → Contains contents file) → (file : List ℕ) → Contains (b1 ∷ []) file → Contains contents file
  within_first contents within file among = within file (1, omega arith, one_of b1 file among)

  within_second : (contents : List (List ℕ)) → ((file : List ℕ) → Contains (b2 ∷ b1 ∷ []) file → Contains contents file) → (file : List ℕ) → Contains (b2 ∷ []) file → Contains contents file
  within_second contents within file among = within file (0, omega arith, one_of b2 file among)

  pub first_failed : (fault : FolderFault) → StagesWhole staged (folder_view ((n2, b2) ∷ (n1, b1) ∷ [])) (b2 ∷ b1 ∷ []) t0 t2 (Err fault)
  first_failed fault contents within =
      (during contents staged n1 [] t0 t1 t2 (begun contents) (more (b1 ∷ []) contents (child staged n1) t1 t2 (within_first contents within) first), tt)

  module _ (sound1 : Sound t1) (sound2 : Sound t2) (new : FromTo (λ a b. IsNewFile b1 a.state b.state (present b.state (child staged n1))) t1 t2) where
    pub one_staged : (contents : List (List ℕ)) → ((file : List ℕ) → Contains (b1 ∷ []) file → Contains contents file) → IsStagedFolder contents staged ((n1, b1) ∷ []) t0 t2
    one_staged contents within =
        gained contents staged n1 b1 [] t0 t1 t2 sound1 sound2 (begun contents) (more (b1 ∷ []) contents (child staged n1) t1 t2 within first) new

    pub both_staged : (t3 : Option Told) (result : Result (Unit {0}) FolderFault) → Sound t3 → Stages (b2 ∷ []) (child staged n2) t2 t3
        → OnOk result (FromTo (λ a b. IsNewFile b2 a.state b.state (present b.state (child staged n2))) t2 t3)
        → StagesWhole staged (folder_view ((n2, b2) ∷ (n1, b1) ∷ [])) (b2 ∷ b1 ∷ []) t0 t3 result
    both_staged t3 result sound3 second new2 contents within =
        let one : IsStagedFolder contents staged ((n1, b1) ∷ []) t0 t2 = one_staged contents (within_first contents within) in
        let stages : Stages contents (child staged n2) t2 t3 = more (b2 ∷ []) contents (child staged n2) t2 t3 (within_second contents within) second in
        (during contents staged n2 ((n1, b1) ∷ []) t0 t2 t3 one stages, by_result result new2 one stages)
      where
        by_result : (result : Result (Unit {0}) FolderFault) → OnOk result (FromTo (λ a b. IsNewFile b2 a.state b.state (present b.state (child staged n2))) t2 t3)
            → IsStagedFolder contents staged ((n1, b1) ∷ []) t0 t2 → Stages contents (child staged n2) t2 t3
            → OnOk result (HasStaged contents staged (folder_view ((n2, b2) ∷ (n1, b1) ∷ [])) t0 t3)
        by_result (Err fault) new2 one stages = tt
        by_result (Ok done) new2 one stages = gained contents staged n2 b2 ((n1, b1) ∷ []) t0 t2 t3 sound2 sound3 one stages new2

-- ---- directories

pub free_in_new : AreSeen → (at : Path) (name : Part) (t u : Option Told) → IsStagedFolder [] at [] t u → IfSeen u (λ v. ShowsFree v (child at name))
free_in_new law at name t u h v is =
    (law [] at (folder_view []) t u h v is (name ∷ []), ap v (parent-child at name) ∙ root_seen law [] at (folder_view []) t u refl h v is)

pub shelf_at : (staged up : Path) (text x : List ℕ) → up ≡ child staged top → x ≡ take 2 text → child up x ≡ staged ++ shelf_named text
shelf_at staged up text x is_up is_x = ap (λ p. child p x) is_up ∙ ap (λ a. child (child staged top) a) is_x ∙ append_assoc staged (top ∷ []) (take 2 text ∷ [])

pub folder_at : (staged up : Path) (text y : List ℕ) → up ≡ staged ++ shelf_named text → y ≡ drop 2 text → child up y ≡ staged ++ folder_named text
folder_at staged up text y is_up is_y = ap (λ p. child p y) is_up ∙ ap (λ a. child (staged ++ shelf_named text) a) is_y ∙ append_assoc staged (shelf_named text) (drop 2 text ∷ [])

module _ (during : During) (gained : DirectoryGained) (staged : Path) (text : List ℕ) (t0 t1 : Option Told) (sound0 : Sound t0)
    (one : (contents : List (List ℕ)) → StagesFolder contents (staged ++ top ∷ []) t0 t1) where
  pub top_failed : (fault : FolderFault) → StagesHome staged text t0 t1 (Err fault)
  top_failed fault before contents made h = (during contents staged (top ∷ []) made before t0 t1 h (one contents), tt)

  module _ (sound1 : Sound t1) (has_top : (contents : List (List ℕ)) → IsStagedFolder contents (staged ++ top ∷ []) [] t0 t1) (t2 : Option Told)
      (two : (contents : List (List ℕ)) → StagesFolder contents (staged ++ shelf_named text) t1 t2) where
    after_top : (before : Option Told) (contents : List (List ℕ)) (made : View) → HasStaged contents staged made before t0
        → HasStaged contents staged (edited made (directory_edit (top ∷ []))) before t1
    after_top before contents made h = gained contents staged (top ∷ []) made before t0 t1 sound0 h (has_top contents)

    pub shelf_failed : (fault : FolderFault) → StagesHome staged text t0 t2 (Err fault)
    shelf_failed fault before contents made h =
        (during contents staged (shelf_named text) (edited made (directory_edit (top ∷ []))) before t1 t2 (after_top before contents made h) (two contents), tt)

    module _ (sound2 : Sound t2) (has_shelf : (contents : List (List ℕ)) → IsStagedFolder contents (staged ++ shelf_named text) [] t1 t2) (t3 : Option Told)
        (three : (contents : List (List ℕ)) → StagesFolder contents (staged ++ folder_named text) t2 t3) where
      after_shelf : (before : Option Told) (contents : List (List ℕ)) (made : View) → HasStaged contents staged made before t0
          → HasStaged contents staged (edited (edited made (directory_edit (top ∷ []))) (directory_edit (shelf_named text))) before t2
      after_shelf before contents made h =
          gained contents staged (shelf_named text) (edited made (directory_edit (top ∷ []))) before t1 t2 sound1 (after_top before contents made h) (has_shelf contents)

      so_far : (before : Option Told) (contents : List (List ℕ)) (made : View) → HasStaged contents staged made before t0 → StagesFolder contents staged before t3
      so_far before contents made h =
          during contents staged (folder_named text) (edited (edited made (directory_edit (top ∷ []))) (directory_edit (shelf_named text))) before t2 t3
          (after_shelf before contents made h) (three contents)

      pub folder_failed : (fault : FolderFault) → StagesHome staged text t0 t3 (Err fault)
      folder_failed fault before contents made h = (so_far before contents made h, tt)

      pub home_staged : ((contents : List (List ℕ)) → IsStagedFolder contents (staged ++ folder_named text) [] t2 t3) → StagesHome staged text t0 t3 (Ok tt)
      home_staged has_folder before contents made h = (
        so_far before contents made h,
        gained contents staged (folder_named text) (edited (edited made (directory_edit (top ∷ []))) (directory_edit (shelf_named text))) before t2 t3 sound2
            (after_shelf before contents made h) (has_folder contents),
      )

-- a Cryptomator vault: two files, and then these
pub with_home_staged : (staged : Path) (text : List ℕ) (made : View) (files : List (List ℕ)) (t u w : Option Told) (result : Result (Unit {0}) FolderFault)
    → StagesWhole staged made files t u (Ok tt) → StagesHome staged text u w result → StagesWhole staged (with_home text made) files t w result
with_home_staged staged text made files t u w result whole home contents within = home t contents made (whole contents within).1

pub free_for_home : AreSeen → (staged : Path) (made : View) (files : List (List ℕ)) (t u : Option Told) → made [] ≡ Folder → made (top ∷ []) ≡ NoEntry
    → StagesWhole staged made files t u (Ok tt) → IfSeen u (λ v. ShowsFree v (child staged top))
free_for_home law staged made files t u folder none whole v is =
    let h : HasStaged files staged made t u = (whole files (λ file among. among)).1 in
    (law files staged made t u h v is (top ∷ []) ∙ none, ap v (parent-child staged top) ∙ root_seen law files staged made t u folder h v is)
