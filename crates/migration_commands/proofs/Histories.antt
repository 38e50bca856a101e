-- Every state of every history is guarded and safe, by what each command says of its own run.
use Rattle.std.proofs.Common.{◌≡◌, List, [], ◌∷◌, Option, Some, None, sym, ◌∙◌, inl, inr, subst}
use Rattle.std.specs.Prelude.{MatchOption}
use Rattle.std.proofs.lemmas.List.{append_cancel_left}
use Rattle.command_answers.specs.declared.answer.Answer.{Answer}
use Rattle.open_for_reading.specs.Places.{RefusesOverlap}
use Rattle.open_for_reading.specs.World.{World}
use Rattle.folder_spec.specs.Event.{Call, Done, Denied, Event, Fell, Outcome, Settle, Told, after, outcome_state}
use Rattle.folder_spec.specs.Image.{Image, IsImage, state_of}
use Rattle.folder_spec.specs.Moments as moments
use Rattle.folder_spec.specs.Moments.{EachEvent, EachState, Went}
use Rattle.folder_spec.specs.Seen.{IsSeen, seen}
use Rattle.folder_spec.specs.State.{State}
use Rattle.folder_spec.specs.View.{View}
use Rattle.folder_spec.proofs.Seen.{seen_of}
use Rattle.folder_spec.proofs.Tellings.{from_to_more}
use Rattle.migration_sides.specs.Unchanged.{ChangesNothing}
use Rattle.migration_spec.proofs.Along.{nothing_each}
use Rattle.migration_spec.proofs.Settling.{SettlesGuarded}
use Rattle.migration_spec.specs.Alone.{StaysGuarded}
use Rattle.migration_spec.specs.Guard.{Migration, Guarded, LosesNothing}
use Rattle.migration_commands.proofs.Migrations.{AreSafe, keeps_all, keeps_same}
use Rattle.migration_commands.specs.History.{Asks, Migrates, Resumes, Retires, Does, IsOf, Run, Follows, FollowEach, IsMoment, IsStateIn, IsStateOf}
use Rattle.migration_commands.specs.Migrate.{IsAskedFor, MigratesApart, MigratesTree, Pair, first_overlap}
use Rattle.migration_commands.specs.Moving.{KeepsAll}
use Rattle.command_words.specs.declared.commands.Moving.{Moving}

-- what holds of each state holds of one of them, and of the last one
of_moment : (P : State → Type 0) (s entry : State) (events : List Event) → EachState P entry events → IsMoment s entry events → P s
of_moment P s entry [] each is = subst P (sym is) each
of_moment P s entry (e ∷ events) each is = elim is [
  | inl first ↦ subst P (sym first) each.0
  | inr later ↦ of_moment P s (after entry e) events each.1 later
]

of_last : (P : State → Type 0) (entry : State) (events : List Event) → EachState P entry events → P (moments.run entry events)
of_last P entry [] each = each
of_last P entry (e ∷ events) each = of_last P (after entry e) events each.1

-- ---- one run

-- whichever command it is, it says that nothing is lost while it runs
migrate_keeps : AreSafe → (g : Migration) (moving : Moving) (answer : Answer) (before after : World) (v : View) → IsSeen before.told v → IsAskedFor g moving v → MigratesTree moving answer before after → KeepsAll g before.told after.told
migrate_keeps safe g moving answer before after v is asked does = by (first_overlap moving) does.apart
  where
    by : (o : Option Pair) → MatchOption o (MigratesApart moving answer before.told after.told before.taken after.taken before.random after.random) (λ two. RefusesOverlap two.first two.second answer before after)
        → KeepsAll g before.told after.told
    by None apart = apart.keeps g v is asked
    by (Some two) refuses = keeps_same safe g before.told after.told refuses.unchanged

command_keeps : AreSafe → (g : Migration) (asks : Asks) (answer : Answer) (before after : World) (v : View) → IsSeen before.told v → IsOf g asks v → Does asks answer before after → KeepsAll g before.told after.told
command_keeps safe g (Migrates moving) answer before after v is of does = migrate_keeps safe g moving answer before after v is of does
command_keeps safe g (Resumes resuming) answer before after v is of does = does.resumes.keeps g v is of
command_keeps safe g (Retires resuming) answer before after v is of does = does.retires.keeps g of

-- a run that only settles loses nothing
settled_state : SettlesGuarded → (g : Migration) (s : State) (call : Call) (outcome : Outcome) → call ≡ Settle → Guarded g s → Guarded g (outcome_state s call outcome)
settled_state settles g s call outcome is guarded = subst (λ (c : Call). Guarded g (outcome_state s c outcome)) (sym is) (by outcome)
  where
    by : (outcome : Outcome) → Guarded g (outcome_state s Settle outcome)
    by Done = settles g s guarded
    by (Fell added) = guarded
    by Denied = guarded

settled_states : SettlesGuarded → (g : Migration) (s : State) (events : List Event) → Guarded g s → EachEvent (λ s e. e.call ≡ Settle) s events → EachState (Guarded g) s events
settled_states settles g s [] guarded each = guarded
settled_states settles g s (e ∷ events) guarded each = (guarded, settled_states settles g (after s e) events (settled_state settles g s e.call e.outcome each.0 guarded) each.1)

settled_keeps : AreSafe → SettlesGuarded → (g : Migration) (told told' : Option Told) → ChangesNothing told told' → KeepsAll g told told'
settled_keeps safe settles g told told' still =
    keeps_all safe g told told'
    (from_to_more (λ a b. Went (λ s. Unit {0}) (λ s e. e.call ≡ Settle) a b) (λ a b. Guarded g a.state → StaysGuarded g a b) told told'
    (λ a b is went guarded. record {
      events = went.events;
      log = went.log;
      state = went.state;
      states = settled_states settles g a.state went.events guarded went.each;
      each = nothing_each a.state went.events;
      allowed = went.allowed;
    }) still)

run_keeps : AreSafe → SettlesGuarded → (g : Migration) (r : Run g) → KeepsAll g (Some r.entry) (Some r.end)
run_keeps safe settles g r = elim r.of [
  | inl of ↦
      subst (λ t. KeepsAll g t (Some r.end)) r.tells_entry (subst (KeepsAll g r.before.told) r.tells_end
      (command_keeps safe g r.asks r.answer r.before r.after (seen r.entry.state) (seen_of r.before.told r.entry r.tells_entry) of r.does))
  | inr still ↦ settled_keeps safe settles g (Some r.entry) (Some r.end) still
]

abbrev Loses : (g : Migration) → Run g → Type 0
Loses g r = Went (LosesNothing g) (λ s e. Unit {0}) r.entry r.end

state_keeps : (g : Migration) (r : Run g) (s : State) → Loses g r → IsStateOf r s → LosesNothing g s
state_keeps g r s went is =
    let same : is.events ≡ went.events = append_cancel_left r.entry.log is.events went.events (sym is.log ∙ went.log) in
    of_moment (LosesNothing g) s r.entry.state went.events went.states (subst (λ events. IsMoment s r.entry.state events) same is.moment)

-- ---- those that follow

abbrev pub ImagesGuarded : Type 0
ImagesGuarded = (g : Migration) (s : State) (image : Image) → Guarded g s → IsImage s image → Guarded g (state_of image)

-- the next run begins guarded
next_guarded : ImagesGuarded → (g : Migration) (r next : Run g) → Loses g r → Follows r next → Guarded g next.entry.state
next_guarded images g r next went follows = elim follows [
  | inl ended ↦ subst (Guarded g) (sym (ended ∙ went.state)) (of_last (LosesNothing g) r.entry.state went.events went.states).guarded
  | inr left ↦ subst (Guarded g) (sym left.taken) (images g left.moment left.image (state_keeps g r left.moment went left.is).guarded left.left)
]

pub each_safe : AreSafe → SettlesGuarded → ImagesGuarded → (g : Migration) (r : Run g) (more : List (Run g)) (s : State) → Guarded g r.entry.state → FollowEach r more → IsStateIn r more s → LosesNothing g s
each_safe safe settles images g r [] s guarded follow is = state_keeps g r s (run_keeps safe settles g r guarded) is
each_safe safe settles images g r (next ∷ more) s guarded follow is = elim is [
  | inl here ↦ state_keeps g r s (run_keeps safe settles g r guarded) here
  | inr later ↦ each_safe safe settles images g next more s (next_guarded images g r next (run_keeps safe settles g r guarded) follow.0) follow.1 later
]
