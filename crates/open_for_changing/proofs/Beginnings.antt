-- What a command did before it came to the making, and why it didn't come to it.
use Rattle.std.proofs.Common.{◌≡◌, ◌⊎◌, ◌&&◌, not, Bool, true, false, [], ◌∷◌, append_assoc, codes, Option, Some, None, Result, Ok, Err, inl, inr, refl, sym, ap, ◌∙◌, subst, arith, IsTrue}
use Rattle.std.specs.Prelude.{is_none}
use Rattle.folder_spec.specs.declared.FolderFault.{FolderFault}
use Rattle.folder_spec.specs.Apart.{AreApart}
use Rattle.folder_spec.specs.Path.{Path, below}
use Rattle.folder_spec.specs.State.{Table, State, present, IsTableOf, IsSound}
use Rattle.folder_spec.specs.Event.{Settle, Told, Steps, Changes, FromTo, changed}
use Rattle.folder_spec.specs.Moments.{Went}
use Rattle.folder_spec.specs.Region.{IsAsBefore, AlikeIn, Spares, apart_from, apart_from_both, at_or_below}
use Rattle.folder_spec.specs.Seen.{IfSeen, IsSeen, seen, under}
use Rattle.folder_spec.specs.View.{View, AgreeIn, found}
use Rattle.folder_spec.specs.Edit.{IsOutside, IsPartOf}
use Rattle.folder_spec.proofs.Moments.{went_on, went_by_call, went_more, went_to}
use Rattle.folder_spec.proofs.Paths.{begins_or_not, below-append}
use Rattle.folder_spec.proofs.Regions.{as_before, as_before_on}
use Rattle.folder_spec.proofs.Tellings.{from_to_more, from_to_on}
use Rattle.item_making.specs.Making.{is_apart, is_inside, is_unstaged}
use Rattle.work_folder.specs.Entries.{stage_path}
use Rattle.work_folder.specs.Changing.{ChangesAt}
use Rattle.work_folder.specs.Entering.{EntersAs, IsWorkOrStage, IsLeftOver}
use Rattle.work_folder.specs.Looking.{Gives}
use Rattle.work_folder.specs.declared.fault.WorkFault.{WorkFault}
use Rattle.work_folder.specs.declared.fault.WorkFault.TheVariants.{NoParent, WrongKind, Foreign, Begun, Depth, Failed, NoMemory}
use Rattle.open_for_changing.specs.Beginning.{IsBeginning, ChangesWork}
use Rattle.open_for_reading.proofs.Overlaps.{apart_by}
use Rattle.open_for_reading.specs.Places.{overlap}
use Rattle.open_for_changing.specs.Faults.{of_work}
use Rattle.open_for_changing.specs.Refusing.{RefusesWork}
use Rattle.command_answers.specs.declared.answer.Answer.{Answer}
use Rattle.command_answers.specs.declared.answer.Answer.TheVariants.{OutOfMemory}

-- ---- nothing but the work folder is changed

pub as_before_then : (region : Path → Bool) (s0 s1 s : State) → IsAsBefore region s0 s1 → IsAsBefore region s1 s → IsAsBefore region s0 s
as_before_then region s0 s1 s first second = record {
  tables = λ t is_table.
      let mid : (u : Table) × IsTableOf s1 u × AlikeIn region t u = second.tables t is_table in
      let old : (w : Table) × IsTableOf s0 w × AlikeIn region mid.0 w = first.tables mid.0 mid.1 in
      (old.0, old.1, λ q inside. mid.2 q inside ∙ old.2 q inside);
  seen = λ q inside. second.seen q inside ∙ first.seen q inside;
  nodes = λ n below. second.nodes n (omega (arith, below, first.made)) ∙ first.nodes n below;
  made = omega (arith, first.made, second.made);
}

module _ (work : Path) where
  pub beginning_none : (s : State) → IsBeginning work s s
  beginning_none s = record { others = as_before (apart_from work) s; nodes = refl; made = refl }

  beginning_then : (s0 s1 s : State) → IsBeginning work s0 s1 → IsBeginning work s1 s → IsBeginning work s0 s
  beginning_then s0 s1 s first second = record {
    others = as_before_then (apart_from work) s0 s1 s first.others second.others;
    nodes = second.nodes ∙ first.nodes;
    made = second.made ∙ first.made;
  }

  beginning_settled : (s : State) → IsBeginning work s (changed s Settle)
  beginning_settled s = record { others = as_before_on (apart_from work) s s Settle tt tt (as_before (apart_from work) s); nodes = refl; made = refl }

  abbrev pub Begins : Told → Told → Type 0
  Begins a b = Went (IsBeginning work a.state) (λ s e. Spares (apart_from work) e.call) a b

  settling : (result : Result (Unit {0}) FolderFault) (a b : Told) → Steps Settle a b result → Begins a b
  settling result a b steps =
      went_by_call (IsBeginning work a.state) (λ s e. Spares (apart_from work) e.call) Settle a b result (beginning_none a.state)
      (λ allowed. beginning_settled a.state) (λ added allowed. beginning_none a.state) (λ outcome. tt) steps

  pub settled_from : (t u : Option Told) (result : Result (Unit {0}) FolderFault) → Changes Settle t u result → ChangesWork work t u
  settled_from t u result changes = from_to_more (λ a b. Steps Settle a b result) Begins t u (λ a b is. settling result a b) changes

  then_begins : (a b c : Told) → Begins a b → Begins b c → Begins a c
  then_begins a b c first second =
      went_on (IsBeginning work a.state) (λ s e. Spares (apart_from work) e.call) a b c first
      (went_more (IsBeginning work b.state) (IsBeginning work a.state) (λ s e. Spares (apart_from work) e.call) (λ s e. Spares (apart_from work) e.call) b c
      (λ s. beginning_then a.state b.state s (went_to (IsBeginning work a.state) (λ s e. Spares (apart_from work) e.call) a b first)) (λ s e spares. spares) second)

  pub entered_from : (t u v : Option Told) (result : Result (Unit {0}) FolderFault) → Changes Settle t u result → ChangesAt work (IsWorkOrStage work) (IsLeftOver work) u v → ChangesWork work t v
  entered_from t u v result changes enters =
      from_to_on (λ a b. Steps Settle a b result) Begins Begins t u v (λ a b c first second. then_begins a b c (settling result a b first) second) changes
      (from_to_more _ Begins u v (λ a b is went. went_more _ (IsBeginning work a.state) _ (λ s e. Spares (apart_from work) e.call) a b
      (λ s h. record { others = h.others; nodes = h.changing.nodes; made = h.changing.made }) (λ s e h. h.1.0) went) enters)

  pub seen_alike : (a b : Told) → IsBeginning work a.state b.state → AgreeIn (apart_from work) (seen b.state) (seen a.state)
  seen_alike a b begins q inside = ap (λ nodes. found (λ n. (nodes n).now) (present b.state q)) begins.nodes ∙ ap (found (λ n. (a.state.nodes n).now)) (begins.others.seen q inside)

  -- what is seen after the beginning is the same outside the work folder
  pub seen_after : (t u : Option Told) → ChangesWork work t u → IfSeen t (λ v. (w : View) × IsSeen u w × AgreeIn (apart_from work) w v)
  seen_after None u changes v is = absurd is
  seen_after (Some a) None changes v is = absurd changes
  seen_after (Some a) (Some b) changes v is =
      (seen b.state, refl, λ q inside. seen_alike a b (went_to (IsBeginning work a.state) (λ s e. Spares (apart_from work) e.call) a b changes) q inside ∙ ap (λ x. x q) (sym is))

alone : (work : Path) (s0 s : State) → IsBeginning work s0 s → IsAsBefore (apart_from work) s0 s
alone work s0 s begun = begun.others

abbrev pub Alone : Path → Told → Told → Type 0
Alone work a b = Went (IsAsBefore (apart_from work) a.state) (λ s e. Spares (apart_from work) e.call) a b

pub went_alone : (work : Path) (t u : Option Told) → ChangesWork work t u → FromTo (Alone work) t u
went_alone work t u begins = from_to_more (Begins work) (Alone work) t u
    (λ a b is went. went_more (IsBeginning work a.state) (IsAsBefore (apart_from work) a.state) (λ s e. Spares (apart_from work) e.call) (λ s e. Spares (apart_from work) e.call) a b (alone work a.state) (λ s e spares. spares) went) begins

-- a beginning and what follows are one
pub begun_then : (work : Path) (R S : Told → Told → Type 0) (t u w : Option Told) → ((a : Told) → t ≡ Some a → IsSound a.state) → ((a b c : Told) → IsSound a.state → Begins work a b → R b c → S a c)
    → ChangesWork work t u → FromTo R u w → FromTo S t w
begun_then work R S t u w sound on begins follows =
    from_to_on (λ a b. IsSound a.state × Begins work a b) R S t u w (λ a b c first second. on a b c first.0 first.1 second)
    (from_to_more (Begins work) (λ a b. IsSound a.state × Begins work a b) t u (λ a b is went. (sound a is, went)) begins) follows

-- what is seen stays when the folder is settled
pub still_seen : (t u : Option Told) → Changes Settle t u (Ok tt) → IfSeen t (λ v. IsSeen u v)
still_seen None u changes v is = absurd is
still_seen (Some a) None changes v is = absurd changes
still_seen (Some a) (Some b) changes v is = is ∙ ap (λ (x : Told). seen x.state) (sym changes.1)

-- ---- why a command doesn't come to the making

refused_by : (v : View) (at : Path) (fault : WorkFault) (answer : Answer) → Gives {T = Unit {0}} (EntersAs v at) (Err fault) → answer ≡ of_work at fault → RefusesWork v at answer
refused_by v at (NoParent p) answer gives is = inr (inr (Err (NoParent p), gives, is))
refused_by v at (WrongKind p) answer gives is = inr (inr (Err (WrongKind p), gives, is))
refused_by v at (Foreign p) answer gives is = inr (inr (Err (Foreign p), gives, is))
refused_by v at Begun answer gives is = inr (inr (Err Begun, gives, is))
refused_by v at Depth answer gives is = inr (inr (Err Depth, gives, is))
refused_by v at Failed answer gives is = inl is
refused_by v at NoMemory answer gives is = inr (inl is)

pub work_refused : (v : View) (at : Path) (fault : WorkFault) (answer : Answer) → Gives {T = Unit {0}} (EntersAs v at) (Err fault) → (answer ≡ OutOfMemory) ⊎ (answer ≡ of_work at fault) → RefusesWork v at answer
work_refused v at fault answer gives (inl memory) = inr (inl memory)
work_refused v at fault answer gives (inr is) = refused_by v at fault answer gives is

abbrev pub Outside : Type 0
Outside = (stage root : Path) → below stage root ≡ None → below root stage ≡ None → IsOutside stage (at_or_below root)

abbrev pub Alike : Type 0
Alike = (root : Path) (v w : View) → AgreeIn (at_or_below root) v w → under root v ≡ under root w

pub same_under : Outside → Alike → (root work : Path) → overlap root work ≡ false → (v w : View) → AgreeIn (apart_from work) w v → under root w ≡ under root v
same_under outside alike root work apart v w agree =
    let none : AreApart root work = apart_by root work apart in
    alike root w v (λ q inside. agree q (outside work root none.other none.one q inside))

-- ---- regions

pub as_before_in : (part whole : Path → Bool) (s0 s : State) → IsPartOf part whole → IsAsBefore whole s0 s → IsAsBefore part s0 s
as_before_in part whole s0 s within as_was = record {
  tables = λ t is_table. (let old : (u : Table) × IsTableOf s0 u × AlikeIn whole t u = as_was.tables t is_table in (old.0, old.1, λ q inside. old.2 q (within q inside)));
  seen = λ q inside. as_was.seen q (within q inside);
  nodes = as_was.nodes;
  made = as_was.made;
}

first_of : (a b : Bool) → IsTrue (a && b) → IsTrue a
first_of true b is = refl
first_of false b is = cc

both_of : (a b c : Bool) → (IsTrue a → IsTrue c) → IsTrue (a && b) → IsTrue (c && b)
both_of true b c more is = subst (λ x. IsTrue (x && b)) (sym (more refl)) is
both_of false b c more is = cc

pub apart_of_both : (work at : Path) → IsPartOf (apart_from_both work at) (apart_from work)
apart_of_both work at q both = first_of (apart_from work q) (apart_from at q) both

-- what is apart from the work folder isn't staged
pub unstaged : (work : Path) → IsPartOf (apart_from work) (is_unstaged work)
unstaged work q apart = elim (begins_or_not (stage_path work) q) [
  | inr none ↦ ap (λ o. not (is_inside o)) none
  | inl k ↦ absurd (clash (below work q) apart (ap (below work) (k.1 ∙ append_assoc work (codes "stage" ∷ []) k.0) ∙ below-append work (codes "stage" ∷ k.0)))
]
  where
    clash : {rest : Path} (o : Option Path) → IsTrue (is_none o) → o ≡ Some rest → ⊥
    clash None is some = cc
    clash (Some x) is some = cc

pub apart_of_unstaged : (work at : Path) → IsPartOf (apart_from_both work at) (is_apart work at)
apart_of_unstaged work at q both = both_of (apart_from work q) (apart_from at q) (is_unstaged work q) (unstaged work q) both
