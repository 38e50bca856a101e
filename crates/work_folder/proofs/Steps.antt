-- One call of a folder: what is seen afterwards, and that its condition holds.
use Rattle.std.proofs.Common.{◌≡◌, ◌≢◌, ◌⊎◌, ℕ, List, ◌∷◌, ◌++◌, Option, Some, None, Result, Ok, Err, OnOk, refl, sym, ap, ◌∙◌, subst, inl, inr}
use Rattle.folder_spec.specs.declared.FolderFault.{FolderFault}
use Rattle.folder_spec.specs.declared.Kind.{Kind}
use Rattle.folder_spec.specs.declared.Kind.TheVariants.{Missing, Dir, File}
use Rattle.folder_spec.specs.Path.{Part, Path}
use Rattle.folder_spec.specs.State.{present, IsSound}
use Rattle.folder_spec.specs.Event.{Call, MakeDir, RemoveFile, Allowed, Told, Changes}
use Rattle.folder_spec.specs.View.{Found, NoEntry, Folder, FileOf, Special, View, kind_found, found}
use Rattle.folder_spec.specs.Seen.{IfSeen, IsSeen, ShowsFree, put_found, seen, seen_after}
use Rattle.folder_spec.proofs.Paths.{path_eq-same}
use Rattle.folder_spec.proofs.Tables.{present_is_table}
use Rattle.folder_spec.proofs.Seen.{seen_changed, may_call_allowed}
use Rattle.folder_spec.proofs.Edits.{nothing_below_file}
use Rattle.folder_model.specs.Answers.{Answers}
use Rattle.work_folder.specs.Changing.{Alters}
use Rattle.work_folder.proofs.Changed.{seen_stays}

pub put_there : (call : Call) (p : Path) (x : Found) (t u : Option Told) (result : Result (Unit {0}) FolderFault) → ((a : Told) → t ≡ Some a → IsSound a.state)
    → ((v : View) → seen_after v call p ≡ x) → Changes call t u result → OnOk result (IfSeen u (λ v. v p ≡ x))
put_there call p x t u (Err fault) sound puts h = tt
put_there call p x (Some a) (Some b) (Ok done) sound puts h = λ v is.
    ap (λ (w : View). w p) is ∙ ap (λ (c : Told). seen c.state p) h.1 ∙ ap (λ (w : View). w p) (seen_changed a.state call (sound a refl) h.0) ∙ puts (seen a.state)
put_there call p x None (Some b) (Ok done) sound puts h = absurd h
put_there call p x t None (Ok done) sound puts h = λ v is. absurd is

pub found_there : (p : Path) (x : Found) (v : View) → put_found v p x p ≡ x
found_there p x v = rw (path_eq-same p) refl

-- what a call found still stands, where what is told stays
shown : (t u : Option Told) (a : Told) → u ≡ t → u ≡ Some a → IsSeen t (seen a.state)
shown t u a same is = subst (λ o. IsSeen o (seen a.state)) (sym is ∙ same) refl

pub missing_free : (t u : Option Told) (at : Path) (kind : Kind) → kind ≡ Missing → u ≡ t → Answers t (λ v. Unit {0}) (λ v k. k ≡ kind_found (v at)) (Ok kind)
    → IfSeen t (λ v. (v at ≡ Folder) ⊎ ShowsFree v at) → (a : Told) → u ≡ Some a → Allowed a.state (MakeDir at)
missing_free t u at kind missing same answer place a is =
    let here : kind ≡ kind_found (seen a.state at) = (answer (seen a.state) (shown t u a same is)).1 in
    may_call_allowed a.state (MakeDir at) (elim (place (seen a.state) (shown t u a same is)) as (λ _. ShowsFree (seen a.state) at) [
      | inl folder ↦ absurd (let both : Missing ≡ Dir = sym missing ∙ here ∙ ap kind_found folder in cc)
      | inr free ↦ free
    ])

pub file_there : (t u : Option Told) (at : Path) (kind : Kind) → kind ≡ File → u ≡ t → Answers t (λ v. Unit {0}) (λ v k. k ≡ kind_found (v at)) (Ok kind)
    → (a : Told) → u ≡ Some a → Allowed a.state (RemoveFile at)
file_there t u at kind file same answer a is =
    let here : kind ≡ kind_found (seen a.state at) = (answer (seen a.state) (shown t u a same is)).1 in
    may_call_allowed a.state (RemoveFile at) (by_kind (seen a.state at) (sym file ∙ here))
  where
    by_kind : (x : Found) → File ≡ kind_found x → (bytes : List ℕ) × (x ≡ FileOf bytes)
    by_kind (FileOf bytes) e = (bytes, refl)
    by_kind NoEntry e = cc
    by_kind Folder e = cc
    by_kind Special e = cc

-- nothing is seen below what is no directory
pub bare_below : (t : Option Told) → ((a : Told) → t ≡ Some a → IsSound a.state) → (v : View) → IsSeen t v → (p : Path) (a : Part) (rest : Path) → v p ≢ Folder
    → v (p ++ a ∷ rest) ≡ NoEntry
bare_below (Some b) sound v is p a rest other =
    ap (λ (w : View). w (p ++ a ∷ rest)) is
    ∙ ap (found (λ n. (b.state.nodes n).now))
    (nothing_below_file b.state.made (present b.state) ((sound b refl).tables (present b.state) (present_is_table b.state)) p a rest
    (λ dir. other (ap (λ (w : View). w p) is ∙ ap (found (λ n. (b.state.nodes n).now)) dir)))
bare_below None sound v is p a rest other = absurd is

-- what is seen where nothing comes or goes
pub stays_so : (C G : Path → Type 0) (t u : Option Told) → Alters C G t u → (q : Path) → (C q → ⊥) → (G q → ⊥) → (P : Found → Type 0)
    → IfSeen t (λ v. P (v q)) → IfSeen u (λ w. P (w q))
stays_so C G (Some a) (Some b) went q no_come no_go P h w is =
    subst P (sym (seen_stays C G (Some a) (Some b) went q no_come no_go (seen a.state) w refl is)) (h (seen a.state) refl)
stays_so C G None (Some b) went q no_come no_go P h w is = absurd went
stays_so C G t None went q no_come no_go P h w is = absurd is
