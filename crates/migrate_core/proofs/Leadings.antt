-- Calls that lead a migration on, one after the other.
use Rattle.std.proofs.Common.{◌≡◌, Option, Some, None, Result, Ok, Err, IfOk, IsErrAnd, OnOk, refl}
use Rattle.folder_spec.proofs.Moments.{went_nowhere, went_on, went_more, went_to}
use Rattle.folder_spec.proofs.Tellings.{from_to_more, from_to_on, from_to_same}
use Rattle.folder_spec.specs.Event.{Told, FromTo}
use Rattle.folder_spec.specs.Seen.{IfSeen, seen}
use Rattle.migrate_core.specs.Leading.{Guards, Leads, Goes}
use Rattle.migration_spec.specs.Alone.{Progress, IsAlone, StaysGuarded, StaysAlone}
use Rattle.migration_spec.specs.Guard.{Migration, Guarded}

-- nothing has changed
pub still_guards : (g : Migration) (p : Progress) (t u : Option Told) → u ≡ t → Guards g p t u
still_guards g p t u is = from_to_same (λ a b. IsAlone g p a.state → StaysGuarded g a b) t u is (λ a at. went_nowhere (Guarded g) (λ s e. Unit {0}) a at.guarded)

pub still_leads : (g : Migration) (p : Progress) (t u : Option Told) → u ≡ t → Leads g p p t u
still_leads g p t u is = from_to_same (λ a b. IsAlone g p a.state → IsAlone g p b.state) t u is (λ a at. at)

pub if_ok : {T E : Type 0} (P : Type 0) (result : Result T E) → P → IfOk result (λ value. P)
if_ok P (Ok value) is = is
if_ok P (Err fault) is = tt

pub on_ok : {T E : Type 0} (P : Type 0) (result : Result T E) → P → OnOk result P
on_ok P (Ok value) is = is
on_ok P (Err fault) is = tt

pub goes_nowhere : {T E : Type 0} (g : Migration) (p : Progress) (t u : Option Told) (result : Result T E) → u ≡ t → Goes g p p t u result
goes_nowhere g p t u result is = (still_guards g p t u is, if_ok (Leads g p p t u) result (still_leads g p t u is))

-- a refusal that changes nothing, wherever the call was to lead
pub refused_nowhere : {T E : Type 0} (Q : E → Type 0) (g : Migration) (p q : Progress) (t u : Option Told) (result : Result T E) → IsErrAnd result Q → u ≡ t → Goes g p q t u result
refused_nowhere Q g p q t u (Ok value) refused is = absurd refused
refused_nowhere Q g p q t u (Err fault) refused is = (still_guards g p t u is, tt)

-- what fails doesn't lead on
pub goes_failed : {T U E D : Type 0} (Q : D → Type 0) (g : Migration) (p q r : Progress) (t u : Option Told) (result : Result T E) (other : Result U D) → IsErrAnd other Q → Goes g p q t u result → Goes g p r t u other
goes_failed Q g p q r t u result (Ok value) refused goes = absurd refused
goes_failed Q g p q r t u result (Err fault) refused goes = (goes.0, tt)

pub guards_on : (g : Migration) (p q : Progress) (t u w : Option Told) → Guards g p t u → Leads g p q t u → Guards g q u w → Guards g p t w
guards_on g p q None None None first leads later = tt
guards_on g p q (Some a) (Some b) (Some c) first leads later = λ at. went_on (Guarded g) (λ s e. Unit {0}) a b c (first at) (later (leads at))
guards_on g p q None (Some b) w first leads later = absurd first
guards_on g p q (Some a) None w first leads later = absurd first
guards_on g p q None None (Some c) first leads later = absurd later
guards_on g p q (Some a) (Some b) None first leads later = absurd later

pub leads_on : (g : Migration) (p q r : Progress) (t u w : Option Told) → Leads g p q t u → Leads g q r u w → Leads g p r t w
leads_on g p q r t u w first later = from_to_on (λ a b. IsAlone g p a.state → IsAlone g q b.state) (λ a b. IsAlone g q a.state → IsAlone g r b.state) (λ a b. IsAlone g p a.state → IsAlone g r b.state) t u w (λ a b c one two at. two (one at)) first later

-- one after the other
pub goes_on : {U D : Type 0} (g : Migration) (p q r : Progress) (t u w : Option Told) (result : Result U D) → Guards g p t u → Leads g p q t u → Goes g q r u w result → Goes g p r t w result
goes_on {U = U} {D = D} g p q r t u w result guards leads later = (guards_on g p q t u w guards leads later.0, after result later.1)
  where
    after : (result : Result U D) → IfOk result (λ value. Leads g q r u w) → IfOk result (λ value. Leads g p r t w)
    after (Ok value) more = leads_on g p q r t u w leads more
    after (Err fault) more = tt

-- a call that leaves it alone at each moment
pub alone_goes : {T E : Type 0} (g : Migration) (p : Progress) (t u : Option Told) (result : Result T E) → FromTo (λ a b. IsAlone g p a.state → StaysAlone g p a b) t u → Goes g p p t u result
alone_goes g p t u result stays = (
  from_to_more (λ a b. IsAlone g p a.state → StaysAlone g p a b) (λ a b. IsAlone g p a.state → StaysGuarded g a b) t u
      (λ a b is h at. went_more (IsAlone g p) (Guarded g) (λ s e. Unit {0}) (λ s e. Unit {0}) a b (λ s is. is.guarded) (λ s e is. is) (h at)) stays,
  if_ok (Leads g p p t u) result (from_to_more (λ a b. IsAlone g p a.state → StaysAlone g p a b) (λ a b. IsAlone g p a.state → IsAlone g p b.state) t u
      (λ a b is h at. went_to (IsAlone g p) (λ s e. Unit {0}) a b (h at)) stays),
)

-- where what a call needs to know follows from how far the migration had come
pub goes_given : {T E : Type 0} (X : Type 0) (S : Told → Told → Type 0) (g : Migration) (p q : Progress) (t u : Option Told) (result : Result T E) → FromTo S t u
    → ((a : Told) → t ≡ Some a → IsAlone g p a.state → X) → (X → Goes g p q t u result) → Goes g p q t u result
goes_given X S g p q None None result told known goes = (tt, if_ok (Leads g p q None None) result tt)
goes_given {T = T} {E = E} X S g p q (Some a) (Some b) result told known goes = (λ at. (goes (known a refl at)).0 at, then_ result goes)
  where
    then_ : (result : Result T E) → (X → Goes g p q (Some a) (Some b) result) → IfOk result (λ value. Leads g p q (Some a) (Some b))
    then_ (Ok value) goes = λ at. (goes (known a refl at)).1 at
    then_ (Err fault) goes = tt
goes_given X S g p q None (Some b) result told known goes = absurd told
goes_given X S g p q (Some a) None result told known goes = absurd told

-- a folder that tells nothing tells nothing afterwards
pub nothing_told : (S : Told → Told → Type 0) (t u : Option Told) → FromTo S t u → ((a : Told) → t ≡ Some a → ⊥) → u ≡ t
nothing_told S None None told none = refl
nothing_told S (Some a) u told none = absurd (none a refl)
nothing_told S None (Some b) told none = absurd told

-- what is known where something is seen afterwards is known where something was seen before
pub then_known : (S : Told → Told → Type 0) (t u : Option Told) → FromTo S t u → (X : Type 0) → IfSeen u (λ v. X) → IfSeen t (λ v. X)
then_known S (Some a) (Some b) told X known v is = known (seen b.state) refl
then_known S None None told X known v is = absurd is
then_known S (Some a) None told X known v is = absurd told
then_known S None (Some b) told X known v is = absurd is
