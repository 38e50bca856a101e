-- Calls that leave a region as it was, one after the other.
use Rattle.std.proofs.Common.{◌≡◌, ◌≢◌, ℕ, Bool, List, Option, Result, Some, None, IsTrue, ◌∙◌, ◌&&◌, true, false, not, is_none, ap, subst, sym, refl}
use Rattle.item_making.specs.declared.fault.PutFault.{PutFault}
use Rattle.vault_write.specs.Founding.{Founds, MayFound, IsFounding, founding, texts, vault_edit}
use Rattle.item_making.specs.Making.{StagesOrPlaces, is_apart, is_inside, is_unstaged}
use Rattle.folder_spec.specs.Event.{Event, FromTo, Told}
use Rattle.folder_spec.specs.Moments.{Moments, Went}
use Rattle.folder_spec.specs.Path.{Part, Path, below}
use Rattle.folder_spec.specs.Region.{IsAsBefore, SparesOld, apart_from, apart_from_both}
use Rattle.folder_spec.specs.Seen.{IfSeen, IsSeen, ShowsFree, seen}
use Rattle.folder_spec.specs.State.{IsSound, State}
use Rattle.folder_spec.specs.View.{View}
use Rattle.folder_spec.proofs.Moments.{went_nowhere, went_on, went_more, went_to}
use Rattle.folder_spec.proofs.Regions.{as_before, as_before_then, as_before_within, seen_as_before}
use Rattle.folder_spec.proofs.Tellings.{from_to_more, from_to_on, from_to_same}
use Rattle.work_folder.specs.Entering.{IsReady}
use Rattle.work_folder.specs.Changing.{ChangesAt, ChangesOnly, IsChangingAt}
use Rattle.demo_core.proofs.Standing.{off_stage}
use Rattle.demo_core.specs.Making.{IsBeside, MakesBeside, making_folder}

abbrev Any : State → Event → Type 0
Any = λ s e. Unit {0}

pub beside_nowhere : (region : Path → Bool) (t u : Option Told) → u ≡ t → IsBeside region t u
beside_nowhere region t u is = from_to_same (λ a b. Went (IsAsBefore region a.state) Any a b) t u is (λ a. went_nowhere (IsAsBefore region a.state) Any a (as_before region a.state))

pub beside_then : (region : Path → Bool) (t u w : Option Told) → IsBeside region t u → IsBeside region u w → IsBeside region t w
beside_then region t u w first later =
    let R : Told → Told → Type 0 = λ a b. Went (IsAsBefore region a.state) Any a b in
    from_to_on R R R t u w
    (λ a b c one two. went_on (IsAsBefore region a.state) Any a b c one
    (went_more (IsAsBefore region b.state) (IsAsBefore region a.state) Any Any b c
    (λ s stayed. as_before_then region region a.state b.state s (λ q inside. inside) (went_to (IsAsBefore region a.state) Any a b one) stayed) (λ s e is. is) two)) first later

-- of calls of which more is known
pub beside_by : (region whole : Path → Bool) (P : State → State → Type 0) (Q : State → State → Event → Type 0) (t u : Option Told) → ((q : Path) → IsTrue (region q) → IsTrue (whole q))
    → ((s0 s : State) → P s0 s → IsAsBefore whole s0 s) → Moments P Q t u → IsBeside region t u
beside_by region whole P Q t u part as_was moments =
    from_to_more (λ a b. Went (P a.state) (Q a.state) a b) (λ a b. Went (IsAsBefore region a.state) Any a b) t u
    (λ a b is went. went_more (P a.state) (IsAsBefore region a.state) (Q a.state) Any a b (λ s here. as_before_within region whole a.state s part (as_was a.state s here)) (λ s e is. tt) went) moments

-- of a call that founds a vault
pub founded_beside : (work at : Path) (made : View) (files : List (Part × List ℕ)) (t u : Option Told) (result : Result (Unit {0}) PutFault) → Founds work at made files t u result → IsBeside (is_apart work at) t u
founded_beside work at made files t u result founds =
    beside_by (is_apart work at) (is_apart work at) (IsFounding work (vault_edit at made) (texts files)) (λ s0 s e. StagesOrPlaces work (founding at made files) s e.call) t u (λ q inside. inside) (λ s0 s here. here.others) founds.moments

-- of a call that makes a work folder ready
pub entered_beside : (work : Path) (Comes Goes : Path → Type 0) (t u : Option Told) → ChangesAt work Comes Goes t u → IsBeside (apart_from work) t u
entered_beside work Comes Goes t u changes =
    beside_by (apart_from work) (apart_from work) (IsChangingAt work Comes Goes) (λ s0 s e. ChangesOnly Comes Goes e.call × SparesOld (apart_from work) s0 s e.call) t u (λ q inside. inside) (λ s0 s here. here.others) changes

-- in a smaller region
pub beside_in : (region whole : Path → Bool) (t u : Option Told) → ((q : Path) → IsTrue (region q) → IsTrue (whole q)) → IsBeside whole t u → IsBeside region t u
beside_in region whole t u part beside = beside_by region whole (IsAsBefore whole) (λ s0 s e. Unit {0}) t u part (λ s0 s here. here) beside

-- what is seen in the region was seen there before
pub seen_beside : (region : Path → Bool) (t u : Option Told) → ((a : Told) → t ≡ Some a → IsSound a.state) → IsBeside region t u
    → IfSeen u (λ w. (v : View) × IsSeen t v × ((q : Path) → IsTrue (region q) → w q ≡ v q))
seen_beside region (Some a) (Some b) sound went w is =
    (seen a.state, refl, λ q inside. ap (λ x. x q) is ∙ seen_as_before region a.state b.state (sound a refl) (went_to (IsAsBefore region a.state) Any a b went) q inside)
seen_beside region None None sound went w is = absurd is
seen_beside region (Some a) None sound went w is = absurd is
seen_beside region None (Some b) sound went w is = absurd went

-- ---- from what is told before

pub carried : (R : Told → Told → Type 0) (t u : Option Told) → FromTo R t u → (a : Told) → t ≡ Some a → (b : Told) × (u ≡ Some b) × R a b
carried R (Some x) (Some y) went a told = (y, refl, subst (λ z. R z y) (let same : x ≡ a = cc told in same) went)
carried R None None went a told = cc told
carried R (Some x) None went a told = absurd went
carried R None (Some y) went a told = absurd went

pub still_told : (R : Told → Told → Type 0) (t u : Option Told) → FromTo R t u → t ≢ None → u ≢ None
still_told R None u went told = absurd (told refl)
still_told R (Some x) (Some y) went told = λ e. cc e
still_told R (Some x) None went told = absurd went

seen_told : (t : Option Told) → IfSeen t (λ v. (a : Told) × (t ≡ Some a))
seen_told (Some a) v is = (a, refl)
seen_told None v is = absurd is

-- what is seen before is told, and something after
pub told_after : (R : Told → Told → Type 0) (t u : Option Told) → FromTo R t u → IfSeen t (λ v. (b : Told) × (u ≡ Some b))
told_after R t u went v is =
    let first = seen_told t v is in
    let now = carried R t u went first.0 first.1 in (now.0, now.1)

pub shown_told : (t : Option Told) (a : Told) → t ≡ Some a → IsSeen t (seen a.state)
shown_told t a told = subst (λ x. IsSeen x (seen a.state)) (sym told) refl

-- ---- the region beside the work folder and a vault

both_parts : (a b : Bool) → IsTrue (a && b) → IsTrue a × IsTrue b
both_parts true b is = (refl, is)
both_parts false b is = absurd (cc is)

both_of : (a b : Bool) → IsTrue a → IsTrue b → IsTrue (a && b)
both_of true b one other = other
both_of false b one other = absurd (cc one)

none_of : (o : Option Path) → IsTrue (is_none o) → o ≡ None
none_of None is = refl
none_of (Some rest) is = absurd (cc is)

pub beside_work : (work at q : Path) → IsTrue (apart_from_both work at q) → IsTrue (apart_from work q)
beside_work work at q is = (both_parts (apart_from work q) (apart_from at q) is).0

pub beside_stage : (work at q : Path) → IsTrue (apart_from_both work at q) → IsTrue (is_apart work at q)
beside_stage work at q is =
    let parts = both_parts (apart_from work q) (apart_from at q) is in
    both_of (is_unstaged work q) (apart_from at q) (ap (λ o. not (is_inside o)) (off_stage work q (none_of (below work q) parts.0))) parts.1

-- ---- a vault that is made

pub work_first : (place at : Path) (Comes Goes : Path → Type 0) (t u : Option Told) → place ≡ making_folder → ChangesAt place Comes Goes t u → IsBeside (apart_from making_folder) t u
work_first place at Comes Goes t u is changes = subst (λ p. IsBeside (apart_from p) t u) is (entered_beside place Comes Goes t u changes)

pub work_beside : (at : Path) (t u : Option Told) → IsBeside (apart_from making_folder) t u → MakesBeside at t u
work_beside at t u beside = beside_in (apart_from_both making_folder at) (apart_from making_folder) t u (λ q is. beside_work making_folder at q is) beside

pub made_beside : (work place at : Path) (t u : Option Told) → work ≡ making_folder → place ≡ at → IsBeside (is_apart work place) t u → MakesBeside at t u
made_beside work place at t u one two beside =
    beside_in (apart_from_both making_folder at) (is_apart making_folder at) t u (λ q is. beside_stage making_folder at q is)
    (subst (λ w. IsBeside (is_apart w at) t u) one (subst (λ p. IsBeside (is_apart work p) t u) two beside))

-- the vault may be made
pub may_found : (work place at : Path) (t : Option Told) → work ≡ making_folder → place ≡ at → IfSeen t (λ v. IsReady v work)
    → below making_folder at ≡ None → below at making_folder ≡ None → IfSeen t (λ v. ShowsFree v place) → MayFound t work place
may_found work place at t one two ready apart other free = record {
  make = record {
    ready = ready;
    apart = subst (λ w. below w place ≡ None) (sym one) (subst (λ p. below making_folder p ≡ None) (sym two) apart);
    beside = subst (λ w. below place w ≡ None) (sym one) (subst (λ p. below p making_folder ≡ None) (sym two) other);
  };
  free = free;
}
