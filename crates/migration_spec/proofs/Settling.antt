-- That a migration stays guarded through a settle, and what is shown then; and that it begins so.
use Rattle.std.proofs.Common.{◌≡◌, ◌∙◌, false, List, [], ◌∷◌, Option, Some, None, Result, Ok, Err, refl, sym, ap, inl, inr, subst}
use Rattle.folder_spec.proofs.Moments.{went_by_call, went_nowhere, went_on}
use Rattle.folder_spec.proofs.Tables.{present_is_table}
use Rattle.folder_spec.proofs.Tellings.{from_to_more, from_to_same}
use Rattle.folder_spec.specs.declared.FolderFault.{FolderFault}
use Rattle.folder_spec.specs.declared.FolderFault.TheVariants.{Failed, NoMemory, Refused}
use Rattle.folder_spec.specs.State.{Table, State, IsTableOf, IsAmong, IsSound, HasNothingPending, last_of, present}
use Rattle.folder_spec.specs.Event.{Changes, Done, FromTo, Settle, Steps, Told, changed, told_after}
use Rattle.folder_spec.specs.Image.{Image, IsImage}
use Rattle.folder_spec.specs.Seen.{IfSeen, IsSeen, seen}
use Rattle.folder_spec.specs.View.{Shows}
use Rattle.migration_spec.proofs.Guards.{RootsAreAlike, ImagesShow, kinds_of, kind_of_found}
use Rattle.migration_spec.proofs.Kept.{alone_by, source_work, source_there}
use Rattle.migration_spec.proofs.Sounds.{KeepSound}
use Rattle.migration_spec.specs.Alone.{Progress, Unbegun, IsIn, IsAlone, KeepsGuarded, StaysGuarded}
use Rattle.migration_spec.specs.Guard.{Migration, IsSeparate, IsNotBegun, IsWork, kinds_in, is_kept, Guarded}
use Rattle.std.proofs.Math.Path.{fun_ext}

abbrev pub SettlesNarrow : Type 0
SettlesNarrow = (s : State) (image : Image) → IsImage (changed s Settle) image → IsImage s image

settled_table : (s : State) (t : Table) → IsTableOf (changed s Settle) t → t ≡ present s
settled_table s t (inl is) = is
settled_table s t (inr none) = absurd none

pub settle_keeps : SettlesNarrow → (g : Migration) (s : State) → Guarded g s → Guarded g (changed s Settle)
settle_keeps narrow g s h = record {
  separate = h.separate;
  clean = λ t q n among kept at. h.clean t q n (subst (IsTableOf s) (sym (settled_table s t among)) (present_is_table s)) kept at;
  images = λ image is. h.images image (narrow s image is);
}

pub settle_alone : RootsAreAlike → ImagesShow → KeepSound → (g : Migration) (p : Progress) (s : State) → IsSound s → Guarded g s → IsIn g p (seen s) → IsAlone g p (changed s Settle)
settle_alone alike shown keep g p s sound h is = alone_by alike shown g p (changed s Settle) (seen s) (keep.done s Settle sound tt) h.separate is (λ t among.
    subst (λ (t : Table). Shows (is_kept g) (changed s Settle) t (seen s) × IsWork false (kinds_of t) g.work) (sym (settled_table s t among)) (
      record { agrees = λ q kept. refl; clean = λ q n kept at. h.clean (present s) q n (present_is_table s) kept at },
      source_work g s (present s) sound h (present_is_table s) (source_there g p (seen s) is),
    ))

pub begins_alone : RootsAreAlike → ImagesShow → (g : Migration) (s : State) → IsSound s → HasNothingPending s → IsSeparate g → IsNotBegun g (seen s) → IsWork false (kinds_in (seen s)) g.work → IsAlone g Unbegun s
begins_alone alike shown g s sound pending separate is work = alone_by alike shown g Unbegun s (seen s) sound separate is (λ t among.
    subst (λ (t : Table). Shows (is_kept g) s t (seen s) × IsWork false (kinds_of t) g.work) (sym (only_table t among))
    (record { agrees = λ q kept. refl; clean = λ q n kept at. pending.clean n }, subst (λ k. IsWork false k g.work) (fun_ext (λ q. kind_of_found (λ n. (s.nodes n).now) (present s q))) work))
  where
    only : (us : List Table) → us ≡ [] → (t : Table) → IsAmong t (s.kept ∷ us) → t ≡ last_of s.kept us
    only [] e t (inl is) = is
    only [] e t (inr none) = absurd none
    only (u ∷ us) e t among = absurd (cc e)

    only_table : (t : Table) → IsTableOf s t → t ≡ present s
    only_table t among = only s.later pending.settled t among

-- ---- a folder that may tell its state

-- nothing has changed
pub still_guarded : (From : State → Type 0) (g : Migration) (t u : Option Told) → ((s : State) → From s → Guarded g s) → u ≡ t → FromTo (λ a b. From a.state → StaysGuarded g a b) t u
still_guarded From g t u guarded same = from_to_same (λ a b. From a.state → StaysGuarded g a b) t u same (λ a is. went_nowhere (Guarded g) (λ s e. Unit {0}) a (guarded a.state is))

-- ---- a settle of it

-- what is seen stays so
pub settle_seen : (t u : Option Told) (done : Unit {0}) → Changes Settle t u (Ok done) → IfSeen t (λ v. IsSeen u v)
settle_seen (Some a) (Some b) done changes v is = is ∙ ap (λ (c : Told). seen c.state) (sym changes.1)
settle_seen None u done changes v is = absurd is
settle_seen (Some a) None done changes v is = absurd changes

pub settle_seen_back : (t u : Option Told) (result : Result (Unit {0}) FolderFault) → Changes Settle t u result → IfSeen u (λ v. IsSeen t v)
settle_seen_back (Some a) (Some b) (Ok done) changes v is = is ∙ ap (λ (c : Told). seen c.state) changes.1
settle_seen_back (Some a) (Some b) (Err Failed) changes v is = is ∙ ap (λ (c : Told). seen c.state) changes.1.2
settle_seen_back (Some a) (Some b) (Err Refused) changes v is = absurd (changes.0 tt)
settle_seen_back (Some a) (Some b) (Err NoMemory) changes v is = is ∙ ap (λ (c : Told). seen c.state) changes
settle_seen_back None (Some b) result changes v is = absurd changes
settle_seen_back t None result changes v is = absurd is

abbrev pub SettlesGuarded : Type 0
SettlesGuarded = (g : Migration) (s : State) → Guarded g s → Guarded g (changed s Settle)

-- one that failed leaves a migration guarded
pub settle_fell : SettlesGuarded → (g : Migration) (t u : Option Told) (result : Result (Unit {0}) FolderFault) → Changes Settle t u result → KeepsGuarded g t u
settle_fell settles g t u result changes =
    from_to_more (λ a b. Steps Settle a b result) (λ a b. Guarded g a.state → StaysGuarded g a b) t u
    (λ a b is steps guarded. went_by_call (Guarded g) (λ s e. Unit {0}) Settle a b result guarded (λ allowed. settles g a.state guarded) (λ added allowed. guarded) (λ outcome. tt) steps) changes

-- and so does one that was done with what goes on from there
pub settle_then : SettlesGuarded → (From : State → Type 0) (g : Migration) (t u w : Option Told) (done : Unit {0})
    → ((a b : Told) → t ≡ Some a → u ≡ Some b → Guarded g a.state → b ≡ told_after a Settle Done → From b.state) → Changes Settle t u (Ok done)
    → FromTo (λ a b. From a.state → StaysGuarded g a b) u w → KeepsGuarded g t w
settle_then settles From g (Some a) (Some b) (Some c) done at changes keeps = λ guarded.
    went_on (Guarded g) (λ s e. Unit {0}) a b c (settle_fell settles g (Some a) (Some b) (Ok done) changes guarded) (keeps (at a b refl refl guarded changes.1))
settle_then settles From g None None None done at changes keeps = tt
settle_then settles From g None (Some b) w done at changes keeps = absurd changes
settle_then settles From g (Some a) None w done at changes keeps = absurd changes
settle_then settles From g None None (Some c) done at changes keeps = absurd keeps
settle_then settles From g (Some a) (Some b) None done at changes keeps = absurd keeps
