-- The tree of the demonstration through both migrations.
use Rattle.std.proofs.Common.{◌≡◌, ◌++◌, [], ℕ, Bool, true, false, Option, Some, None, Result, Ok, Err, IfOk, IsTrue, inl, inr, is_some, refl, sym, ap, subst, ◌∙◌}
use Rattle.demo_core.specs.Making.{HoldsItems, MakesBeside, StandsNew, making_folder, phrase}
use Rattle.plain_tree.specs.declared.name_map.NameMap.TheVariants.{Same}
use Rattle.demo_core.proofs.Standing.{new_kind, same_vault}
use Rattle.folder_spec.specs.Event.{Event, FromTo, Told}
use Rattle.folder_spec.specs.Moments.{Went}
use Rattle.folder_spec.specs.Path.{Path}
use Rattle.folder_spec.specs.Region.{IsAsBefore, apart_from_both}
use Rattle.folder_spec.specs.Seen.{IfSeen, IsSeen, seen, under}
use Rattle.folder_spec.specs.State.{IsSound, State}
use Rattle.folder_spec.specs.View.{NoEntry, View}
use Rattle.folder_spec.proofs.Moments.{went_more, went_on, went_to}
use Rattle.folder_spec.proofs.Paths.{begins_or_not}
use Rattle.folder_spec.proofs.Regions.{seen_as_before}
use Rattle.migrate_core.specs.Moved.{MovesTree, SaysDone}
use Rattle.migrate_core.specs.Moving.{MovesOnly, OnlyBrings}
use Rattle.migrate_core.specs.declared.placing.Done.{Done}
use Rattle.move_journal.specs.Journal.{IsJournal}
use Rattle.move_journal.specs.declared.journal.Journal.{Journal}
use Rattle.move_journal.specs.Reading.{StandsIn}
use Rattle.move_journal.proofs.Standing.{HaveOneJournal}
use Rattle.retire_core.specs.Retiring.{HasRetired, Touches, TouchesOnly, retiring_by}
use Rattle.vault_read.specs.Laws.{HaveOneAnswer}
use Rattle.vault_read.specs.OwnFolders.{HasOwnFolders}
use Rattle.vault_read.specs.Opened.{kind_of}
use Rattle.vault_read.specs.declared.vault.VaultKind.{VaultKind}
use Rattle.vault_read.specs.declared.vault.VaultKind.TheVariants as kind
use Rattle.vault_spec.specs.Vault.{IsVault}
use Rattle.demonstration.specs.Demo.{OnEnd}
use Rattle.demonstration.specs.DemoTrees.{BringsItems, Carries, HasOwn, IsMoved, IsNewAt, IsWithin, Leads, LeadsBoth, Leaves, LeavesSource, MakesItems, first_root, kind_to, moving_folder, second_root, WhereTold, source_of, target_of, third_root}
use Rattle.migrate_core.specs.Written.{HasGone}
use Rattle.command_answers.specs.declared.answer.Answer.{Answer}
use Rattle.demonstration.specs.declared.demonstrating.Way.{Way as Ended}
use Rattle.demonstration.specs.declared.demonstrating.Way.TheVariants as ways
use Rattle.demonstration.specs.declared.leading.Leg.{Leg}
use Rattle.demonstration.specs.declared.leading.Leg.TheVariants.{There, Back}
use Rattle.demonstration.proofs.DemonstratedTrees.{AreAlike, TreesStay, held_alike, held_moved, region_stays}
use Rattle.demonstration.proofs.GoodOrder.{new_own, own_folders, own_of_good}

-- ---- roots

pub within : (root : Path) (region : Path → Bool) → ((rest : Path) → IsTrue (region (root ++ rest))) → IsWithin root region
within root region all q at = elim (begins_or_not root q) [
  | inl it ↦ subst (λ p. IsTrue (region p)) (sym it.1) (all it.0)
  | inr none ↦ let no : false ≡ true = sym (ap is_some none) ∙ at in cc
]

pub apart_making : (leg : Leg) → IsWithin (source_of leg) (apart_from_both making_folder (target_of leg))
apart_making There = within first_root (apart_from_both making_folder second_root) (λ rest. refl)
apart_making Back = within second_root (apart_from_both making_folder third_root) (λ rest. refl)

pub apart_moving : (leg : Leg) → IsWithin (source_of leg) (apart_from_both moving_folder (target_of leg))
apart_moving There = within first_root (apart_from_both moving_folder second_root) (λ rest. refl)
apart_moving Back = within second_root (apart_from_both moving_folder third_root) (λ rest. refl)

goes_on : (P : State → Type 0) (Q : State → Event → Type 0) (a b : Told) → Went P Q a b → HasGone a b
goes_on P Q a b went = went_more P (λ s. Unit {0}) Q (λ s e. Unit {0}) a b (λ s is. tt) (λ s e is. tt) went

go_then : (a b c : Told) → HasGone a b → HasGone b c → HasGone a c
go_then a b c first next = went_on (λ s. Unit {0}) (λ s e. Unit {0}) a b c first next

-- ---- where it is told

where_told : (R : Told → Told → Type 0) (t u : Option Told) → FromTo R t u → WhereTold R t u
where_told R (Some a) (Some b) h x is = let same : a ≡ x = cc is in (b, refl, subst (λ y. R y b) same h)
where_told R None None h x is = cc is
where_told R (Some a) None h x is = absurd h
where_told R None (Some b) h x is = absurd h

where_on : (R S T : Told → Told → Type 0) (t u w : Option Told) → ((a b c : Told) → R a b → S b c → T a c) → WhereTold R t u → WhereTold S u w → WhereTold T t w
where_on R S T t u w on first next a is =
    let one : (b : Told) × (u ≡ Some b) × R a b = first a is in
    let two : (c : Told) × (w ≡ Some c) × S one.0 c = next one.0 one.1 in
    (two.0, two.1, on a one.0 two.0 one.2 two.2)

-- ---- the first items

items_told : (seed count : ℕ) (t u : Option Told) → IfSeen u (λ v. HoldsItems kind.Gocryptfs first_root seed count v) → MakesBeside first_root t u → FromTo (MakesItems seed count) t u
items_told seed count (Some a) (Some b) holds beside = (goes_on (IsAsBefore (apart_from_both making_folder first_root) a.state) (λ s e. Unit {0}) a b beside, holds (seen b.state) refl)
items_told seed count None None holds beside = tt
items_told seed count (Some a) None holds beside = absurd beside
items_told seed count None (Some b) holds beside = absurd beside

pub items_made : (seed count : ℕ) (t u : Option Told) → IfSeen u (λ v. HoldsItems kind.Gocryptfs first_root seed count v) → MakesBeside first_root t u → WhereTold (MakesItems seed count) t u
items_made seed count t u holds beside = where_told (MakesItems seed count) t u (items_told seed count t u holds beside)

-- ---- one migration

carries : AreAlike → HaveOneAnswer → TreesStay → (second : VaultKind) (from to : Path) (done : Done) (a b c : Told) → IsSound a.state → IsSound b.state → IsWithin from (apart_from_both making_folder to)
    → IsWithin from (apart_from_both moving_folder to) → MakesBeside to (Some a) (Some b) → StandsNew second to b.state → (moves : MovesTree Same from to moving_folder phrase phrase done (Some b) (Some c))
    → MovesOnly moving_folder to (Some b) (Some c) → Carries second from to a c
carries alike one stay second from to done a b c sound_a sound_b beside apart made new moves only = record {
  goes = go_then a b c (goes_on (IsAsBefore (apart_from_both making_folder to) a.state) (λ s e. Unit {0}) a b made) (goes_on (IsAsBefore (apart_from_both moving_folder to) b.state) (λ s e. OnlyBrings moving_folder to s e.call) b c only);
  is = λ vault opened. subst (λ x. kind_of x ≡ second) (same_vault one (under to (seen c.state)) moves.target vault opens opened) is;
  own = λ own_from vault opened. subst (λ x. HasOwnFolders x (under to (seen c.state))) (same_vault one (under to (seen c.state)) moves.target vault opens opened) (own_to own_from);
  holds = λ first seed count own_from held.
      held_moved one stay first second from to moving_folder done seed count (Some b) (Some c) (seen b.state) (seen c.state) moves refl refl (stays_then from apart)
      (subst (HasOwnFolders moves.source) (sym (stays_then from apart ∙ stays_first from beside)) (own_source own_from)) (own_to own_from) is
      (held_alike first from seed count (seen a.state) (seen b.state) (stays_first from beside) held);
  stays = λ root one two. stays_then root two ∙ stays_first root one;
  items = done.items;
  says = (moves.moved (seen c.state) refl).says;
}
  where
    opens : IsVault (under to (seen c.state)) phrase moves.target
    opens = moves.opens_still (seen c.state) refl

    is : kind_of moves.target ≡ second
    is = new_kind one second to moves.target b.state (moves.opens_target (seen b.state) refl) new

    stays_first : (root : Path) → IsWithin root (apart_from_both making_folder to) → under root (seen b.state) ≡ under root (seen a.state)
    stays_first root inside = region_stays alike root (apart_from_both making_folder to) (λ s e. Unit {0}) a b sound_a inside made

    stays_then : (root : Path) → IsWithin root (apart_from_both moving_folder to) → under root (seen c.state) ≡ under root (seen b.state)
    stays_then root inside = region_stays alike root (apart_from_both moving_folder to) (λ s e. OnlyBrings moving_folder to s e.call) b c sound_b inside only

    own_source : HasOwn from a.state → HasOwnFolders moves.source (under from (seen a.state))
    own_source own_from = own_from moves.source (subst (λ u. IsVault u phrase moves.source) (stays_first from beside) (moves.opens_source (seen b.state) refl))

    own_to : HasOwn from a.state → HasOwnFolders moves.target (under to (seen c.state))
    own_to own_from =
        own_of_good moves.target to (seen c.state)
        (moves.stays_good (seen b.state) (seen c.state) refl refl (record {
          source = subst (HasOwnFolders moves.source) (sym (stays_first from beside)) (own_source own_from);
          target = new_own one second to moves.target b.state (moves.opens_target (seen b.state) refl) new;
        })).1

leg_told : AreAlike → HaveOneAnswer → TreesStay → (leg : Leg) (t u w : Option Told) → ((a : Told) → t ≡ Some a → IsSound a.state) → ((a : Told) → u ≡ Some a → IsSound a.state) → MakesBeside (target_of leg) t u
    → IsNewAt (kind_to leg) (target_of leg) u → IsMoved (source_of leg) (target_of leg) u w → FromTo (Carries (kind_to leg) (source_of leg) (target_of leg)) t w
leg_told alike one stay leg (Some a) (Some b) (Some c) first second made new moved =
    carries alike one stay (kind_to leg) (source_of leg) (target_of leg) moved.0 a b c (first a refl) (second b refl) (apart_making leg) (apart_moving leg) made (new b refl) moved.1 moved.2
leg_told alike one stay leg None None None first second made new moved = tt
leg_told alike one stay leg (Some a) None w first second made new moved = absurd made
leg_told alike one stay leg None (Some b) w first second made new moved = absurd made
leg_told alike one stay leg (Some a) (Some b) None first second made new moved = absurd moved.2
leg_told alike one stay leg None None (Some c) first second made new moved = absurd moved.2

pub leg_carries : AreAlike → HaveOneAnswer → TreesStay → (leg : Leg) (t u w : Option Told) → ((a : Told) → t ≡ Some a → IsSound a.state) → ((a : Told) → u ≡ Some a → IsSound a.state) → MakesBeside (target_of leg) t u
    → IsNewAt (kind_to leg) (target_of leg) u → IsMoved (source_of leg) (target_of leg) u w → WhereTold (Carries (kind_to leg) (source_of leg) (target_of leg)) t w
leg_carries alike one stay leg t u w first second made new moved = where_told (Carries (kind_to leg) (source_of leg) (target_of leg)) t w (leg_told alike one stay leg t u w first second made new moved)

-- ---- its source is retired

leaves : AreAlike → HaveOneJournal → (from to : Path) (retired moved : ℕ) (a b : Told) → IsSound a.state → HasRetired moving_folder retired (Some b) (seen a.state)
    → ((journal : Journal) → IsJournal journal → StandsIn moving_folder journal (seen a.state) → TouchesOnly (retiring_by moving_folder phrase phrase journal) (Some a) (Some b))
    → IsTrue (apart_from_both from moving_folder []) → SaysDone Same from to moving_folder moved (seen a.state) → Leaves from moved retired a b
leaves alike one from to count items a b sound retired touches apart says =
    let same : says.journal ≡ retired.journal = one moving_folder (seen a.state) says.journal retired.journal says.is retired.is says.stands retired.stands in
    let source : retired.journal.source ≡ from = sym (ap (λ (j : Journal). j.source) same) ∙ says.source in
    let Q : State → Event → Type 0 = λ s e. Touches (retiring_by moving_folder phrase phrase says.journal) s e.call in
    let went : Went (IsAsBefore (apart_from_both from moving_folder) a.state) Q a b = subst (λ p. Went (IsAsBefore (apart_from_both p moving_folder) a.state) Q a b) says.source (touches says.journal says.is says.stands) in
    record {
      goes = goes_on (IsAsBefore (apart_from_both from moving_folder) a.state) Q a b went;
      stays = λ root inside. region_stays alike root (apart_from_both from moving_folder) Q a b sound inside went;
      base = seen_as_before (apart_from_both from moving_folder) a.state b.state sound (went_to (IsAsBefore (apart_from_both from moving_folder) a.state) Q a b went) [] apart;
      gone = subst (λ p. seen b.state p ≡ NoEntry) source (retired.source_gone (seen b.state) refl);
      work_gone = retired.work_gone (seen b.state) refl;
      all = retired.items ∙ ap (λ (j : Journal). j.items) (sym same) ∙ says.items;
    }

base_apart : (leg : Leg) → IsTrue (apart_from_both (source_of leg) moving_folder [])
base_apart There = refl
base_apart Back = refl

pub leaves_source : AreAlike → HaveOneJournal → (leg : Leg) (retired : ℕ) (t u : Option Told) → ((a : Told) → t ≡ Some a → IsSound a.state) → IfSeen t (λ v. HasRetired moving_folder retired u v)
    → ((v : View) (journal : Journal) → IsSeen t v → IsJournal journal → StandsIn moving_folder journal v → TouchesOnly (retiring_by moving_folder phrase phrase journal) t u) → LeavesSource leg retired t u
leaves_source alike one leg retired (Some a) (Some b) sound has touches x is =
    let same : a ≡ x = cc is in
    let left : (moved : ℕ) → SaysDone Same (source_of leg) (target_of leg) moving_folder moved (seen a.state) → Leaves (source_of leg) moved retired a b =
    λ moved says. leaves alike one (source_of leg) (target_of leg) retired moved a b (sound a refl) (has (seen a.state) refl) (λ journal is stands. touches (seen a.state) journal refl is stands) (base_apart leg) says in
    (b, refl, subst (λ y. (moved : ℕ) → SaysDone Same (source_of leg) (target_of leg) moving_folder moved (seen y.state) → Leaves (source_of leg) moved retired y b) same left)
leaves_source alike one leg retired (Some a) None sound has touches x is =
    let here : HasRetired moving_folder retired None (seen a.state) = has (seen a.state) refl in absurd (touches (seen a.state) here.journal refl here.is here.stands)
leaves_source alike one leg retired None u sound has touches x is = cc is

pub leg_leads : (leg : Leg) (retired : ℕ) (t u w : Option Told) → WhereTold (Carries (kind_to leg) (source_of leg) (target_of leg)) t u → LeavesSource leg retired u w
    → WhereTold (Leads (kind_to leg) (source_of leg) (target_of leg)) t w
leg_leads leg retired t u w carried left =
    where_on (Carries (kind_to leg) (source_of leg) (target_of leg)) (λ a b. (moved : ℕ) → SaysDone Same (source_of leg) (target_of leg) moving_folder moved (seen a.state) → Leaves (source_of leg) moved retired a b)
    (Leads (kind_to leg) (source_of leg) (target_of leg)) t u w (λ a b c one two. record { between = b; carries = one; retired = retired; leaves = two one.items one.says }) carried left

-- ---- both: out to the second vault, and home to the third

abbrev Out : Told → Told → Type 0
Out = Leads kind.Cryptomator first_root second_root

abbrev Home : Told → Told → Type 0
Home = Leads kind.Gocryptfs second_root third_root

pub both_lead : (t u w : Option Told) → WhereTold Out t u → WhereTold Home u w → WhereTold LeadsBoth t w
both_lead t u w there back = where_on Out Home LeadsBoth t u w (λ a b c one two. record { between = b; there = one; back = two }) there back

brings : HaveOneAnswer → (seed count : ℕ) (a b c : Told) → MakesItems seed count a b → LeadsBoth b c → BringsItems seed count a c
brings one seed count a b c made leads = record {
  first = b;
  second = at_second;
  made = made.0;
  moved = leads.there.carries.goes;
  moved_back = go_then at_second leads.between c leads.there.leaves.goes (go_then leads.between leads.back.between c leads.back.carries.goes leads.back.leaves.goes);
  in_first = made.1;
  in_second = in_second;
  in_third =
      held_alike kind.Gocryptfs third_root seed count (seen leads.back.between.state) (seen c.state) third_stays
      (leads.back.carries.holds kind.Cryptomator seed count (own_alike second_root at_second.state leads.between.state second_stays (leads.there.carries.own own_first))
      (held_alike kind.Cryptomator second_root seed count (seen at_second.state) (seen leads.between.state) second_stays in_second));
  first_gone = ap (λ (u : View). u []) first_stays ∙ leads.there.leaves.gone;
  second_gone = leads.back.leaves.gone;
}
  where
    at_second : Told
    at_second = leads.there.between

    own_alike : (root : Path) (s s' : State) → under root (seen s') ≡ under root (seen s) → HasOwn root s → HasOwn root s'
    own_alike root s s' same own vault opens = subst (HasOwnFolders vault) (sym same) (own vault (subst (λ u. IsVault u phrase vault) same opens))

    own_first : HasOwn first_root b.state
    own_first vault opens =
        own_folders vault (under first_root (seen b.state)) (subst (λ x. kind_of x ≡ kind.Gocryptfs) (same_vault one (under first_root (seen b.state)) made.1.vault vault made.1.opens opens) made.1.is)

    in_second : HoldsItems kind.Cryptomator second_root seed count (seen leads.there.between.state)
    in_second = leads.there.carries.holds kind.Gocryptfs seed count own_first made.1

    second_stays : under second_root (seen leads.between.state) ≡ under second_root (seen leads.there.between.state)
    second_stays = leads.there.leaves.stays second_root (within second_root (apart_from_both first_root moving_folder) (λ rest. refl))

    third_stays : under third_root (seen c.state) ≡ under third_root (seen leads.back.between.state)
    third_stays = leads.back.leaves.stays third_root (within third_root (apart_from_both second_root moving_folder) (λ rest. refl))

    first_stays : under first_root (seen c.state) ≡ under first_root (seen leads.between.state)
    first_stays =
        leads.back.leaves.stays first_root (within first_root (apart_from_both second_root moving_folder) (λ rest. refl))
        ∙ leads.back.carries.stays first_root (within first_root (apart_from_both making_folder third_root) (λ rest. refl)) (within first_root (apart_from_both moving_folder third_root) (λ rest. refl))

pub all_brought : HaveOneAnswer → (seed count : ℕ) (t u w : Option Told) → WhereTold (MakesItems seed count) t u → WhereTold LeadsBoth u w → WhereTold (BringsItems seed count) t w
all_brought one seed count t u w made leads = where_on (MakesItems seed count) LeadsBoth (BringsItems seed count) t u w (λ a b c first next. brings one seed count a b c first next) made leads

-- ---- by how it ends

pub on_end : (result : Result Ended Answer) (X Y : Type 0) → (X → Y) → IfOk result (OnEnd X) → IfOk result (OnEnd Y)
on_end (Err answer) X Y more it = tt
on_end (Ok (ways.StoppedThere status)) X Y more it = tt
on_end (Ok (ways.StoppedBack status)) X Y more it = tt
on_end (Ok (ways.Arrived first second)) X Y more it = more it

pub on_zero : (result : Result ℕ Answer) (X Y : Type 0) → (X → Y) → IfOk result (λ status. status ≡ 0 → X) → IfOk result (λ status. status ≡ 0 → Y)
on_zero (Err answer) X Y more it = tt
on_zero (Ok status) X Y more it = λ same. more (it same)

-- a new vault stands where one of the two calls made it
pub new_told : {T E : Type 0} (leg leg' : Leg) (made result : Result T E) (value : T) (t u : Option Told) → leg ≡ leg' → t ≡ u → made ≡ result → made ≡ Ok value
    → IfOk result (λ work. IsNewAt (kind_to leg') (target_of leg') u) → IsNewAt (kind_to leg) (target_of leg) t
new_told leg leg' made result value t u same told is ok stands =
    let X : Type 0 = IsNewAt (kind_to leg') (target_of leg') u in
    let here : X = subst (λ r. IfOk r (λ work. X)) (sym is ∙ ok) stands in
    subst (λ l. IsNewAt (kind_to l) (target_of l) t) (sym same) (subst (IsNewAt (kind_to leg') (target_of leg')) (sym told) here)
