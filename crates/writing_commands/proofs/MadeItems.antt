-- An item is made in a vault after the work folder was made ready.
use Rattle.std.proofs.Common.{◌≡◌, ◌⊎◌, zero, suc, ℕ, Bool, true, false, List, [], ◌∷◌, Option, Some, Result, Ok, Err, OnOk, IfErr, inl, inr, refl, sym, ap, subst, arith, IsTrue}
use Rattle.std.specs.Prelude.{Contains}
use Rattle.std.specs.Io.KnownBytes.{Keeps}
use Rattle.item_making.specs.Ending.{Ending, Whole}
use Rattle.item_making.specs.declared.fault.PutFault.{PutFault}
use Rattle.item_making.specs.declared.fault.PutFault.TheVariants as puts
use Rattle.folder_spec.specs.Path.{Path}
use Rattle.folder_spec.specs.State.{Table, State, IsTableOf, IsSound}
use Rattle.folder_spec.specs.Event.{Event, Told, FromTo}
use Rattle.folder_spec.specs.Moments.{Went}
use Rattle.folder_spec.specs.Region.{IsAsBefore, Spares, apart_from, apart_from_both}
use Rattle.folder_spec.specs.Seen.{IfSeen, IsSeen, seen, under}
use Rattle.folder_spec.specs.View.{View, AgreeIn, Shows}
use Rattle.folder_spec.proofs.Edits.{unchanged_shows}
use Rattle.folder_spec.proofs.Moments.{went_on, went_more, went_to}
use Rattle.folder_spec.proofs.Paths.{base_or_child}
use Rattle.folder_spec.proofs.Tellings.{from_to_more}
use Rattle.plain_tree.specs.Names as plain
use Rattle.vault_spec.specs.Opened.{OpenedVault}
use Rattle.vault_faults.specs.declared.fault.FindFault.TheVariants as finds
use Rattle.vault_spec.specs.Making.{NewItem, NewDirectory}
use Rattle.vault_spec.specs.Vault.{Vault}
use Rattle.vault_write.specs.Calls.{How, New, IsOfMaking, IsUnpublished, making_by, AnswersBy, MakesOne, MakesAt, MakesDirectory}
use Rattle.vault_write.specs.Faults.{IsDirectoryFault}
use Rattle.item_making.specs.Making.{Placing, Making, format, path_of, is_apart, is_elsewhere, is_unstaged, StagesOrPlaces}
use Rattle.item_making.specs.Placing.{ShowsOne, ShowsNewTree, IsMaking, EndsAs, making_at}
use Rattle.item_making.specs.Trees.{KeepsTree, GainsItem, opens_as}
use Rattle.work_folder.specs.Entering.{EntersAs, IsFresh, IsReady}
use Rattle.open_for_changing.proofs.Beginnings.{Alike, Begins, Outside, apart_of_both, apart_of_unstaged, as_before_in, as_before_then, begun_then, same_under, seen_after, seen_alike, unstaged, went_alone}
use Rattle.open_for_changing.proofs.Endings.{ended_before, made_beside}
use Rattle.open_for_changing.proofs.Leavings.{fresh_then, leaves_then, stays_in_part, stays_nowhere, unused_apart}
use Rattle.open_for_changing.specs.Staying.{Leaves, StaysIn, is_unused}
use Rattle.open_for_reading.proofs.Refusals.{pass_gives, unless_then}
use Rattle.open_for_changing.proofs.Sites.{site_then}
use Rattle.open_for_changing.specs.Beginning.{ChangesOnlyWork, IsBeginning, ChangesWork, OfSite, OfWork}
use Rattle.open_for_reading.specs.Tests.{is_of_beginning}
use Rattle.writing_commands.specs.Faults.{answer_to_making}
use Rattle.writing_commands.specs.Items.{ChangesThere, ChangesVault, ShowsOneBeside, ShowsNewTreeBeside, IsMakingBeside, MakesNamed, MakesItem, MakesIn}
use Rattle.writing_commands.specs.Mkdir.{MakesDirectoryIn, is_of_directory}
use Rattle.open_for_reading.specs.Opening.{Opens, OfVault}
use Rattle.open_for_reading.specs.Places.{overlap}
use Rattle.open_for_changing.specs.Refusing.{RefusesSite}
use Rattle.open_for_reading.specs.Shown.{refused}
use Rattle.open_for_reading.specs.World.{World}
use Rattle.command_answers.specs.declared.answer.Answer.{Answer}
use Rattle.command_answers.specs.declared.answer.Answer.TheVariants.{OutOfMemory, Overlap}
use Rattle.command_words.specs.declared.commands.Change.{Change}

-- ---- at each moment

only : (v w : View) → Contains (v ∷ []) w → w ≡ v
only v w (zero, lt, at) = sym at
only v w (suc k, lt, at) = absurd (omega (arith, lt))

module _ (p : Placing) (ending : Ending) where
  -- a table of a region that shows one view alone shows the old tree
  old_tree : (region : Path → Bool) (v : View) (s : State) → ShowsOne p region s v → (t : Table) → IsTableOf s t
      → (w : View) × Shows region s t w × (KeepsTree (format p) p.vault.root v w ⊎ ((ending ≡ Whole) × GainsItem (format p) p.vault.root (path_of p) (opens_as p.item) v w))
  old_tree region v s one t is_table =
      let there : (w : View) × Contains (v ∷ []) w × Shows region s t w = one.alone t is_table in
      let keeps : KeepsTree (format p) p.vault.root v v = record { vault = record { elsewhere = λ q apart. refl; loads = λ pass vault is. is; good = one.good }; opens = λ path. refl } in
      (v, subst (Shows region s t) (only v there.0 there.1) there.2, inl keeps)

  module _ (s0 s1 : State) (sound : IsSound s0) (begun : IsBeginning p.work s0 s1) where
    one_then : (region : Path → Bool) (v : View) → ShowsOneBeside p region s0 v → ShowsOne p region s1 v
    one_then region v shows = record {
      has = shows.one.has;
      alone = unchanged_shows (apart_from p.work) region s0 s1 (v ∷ []) sound shows.beside begun.others shows.one.alone;
      good = shows.one.good;
    }

    others_then : IsAsBefore (apart_from_both p.work p.vault.root) s0 s1
    others_then = as_before_in (apart_from_both p.work p.vault.root) (apart_from p.work) s0 s1 (apart_of_both p.work p.vault.root) begun.others

    item_before : (m : Making) → IsMakingBeside p ending m s0 s1
    item_before m = record {
      others = others_then;
      trees = λ region v shows t is_table. old_tree region v s1 (one_then region v shows) t is_table;
      fronts = λ n new made. absurd (let same : s1.made ≡ s0.made = begun.made in omega (arith, new, made, same));
    }

    item_then : (m : Making) (s : State) → IsMaking p ending m s1 s → IsMakingBeside p ending m s0 s
    item_then m s makes = record {
      others = as_before_then (apart_from_both p.work p.vault.root) s0 s1 s others_then
          (as_before_in (apart_from_both p.work p.vault.root) (is_elsewhere p) s1 s (apart_of_unstaged p.work p.vault.root) makes.others);
      trees = λ region v shows t is_table. makes.trees region v (one_then region v shows) t is_table;
      fronts = λ n new made. makes.fronts n (let same : s1.made ≡ s0.made = begun.made in omega (arith, new, same)) made;
    }

    tree_then : (s : State) → ShowsNewTree p s1 s → ShowsNewTreeBeside p s0 s
    tree_then s shows_new = record { settled = shows_new.settled; tree = λ region v shows. shows_new.tree region v (one_then region v shows) }

-- ---- under a name

module _ (outside : Outside) (alike : Alike) (p : Placing) (ending : Ending) (making : View → Making) (apart : overlap p.vault.root p.work ≡ false) where
  abbrev Steps : State → State → Event → Type 0
  Steps s0 s e = Spares (apart_from p.work) e.call ⊎ StagesOrPlaces p.work (making_at p making s0) s e.call

  abbrev Makings : Told → Told → Type 0
  Makings b c = Went (IsMaking p ending (making_at p making b.state) b.state) (λ s e. StagesOrPlaces p.work (making_at p making b.state) s e.call) b c

  abbrev MakingsBeside : Told → Told → Type 0
  MakingsBeside a c = Went (IsMakingBeside p ending (making_at p making a.state) a.state) (Steps a.state) a c

  went_making : (a b c : Told) → IsSound a.state → Begins p.work a b → Makings b c → MakingsBeside a c
  went_making a b c sound begins makes =
      let m : Making = making_at p making a.state in
      let begun : IsBeginning p.work a.state b.state = went_to (IsBeginning p.work a.state) (λ s e. Spares (apart_from p.work) e.call) a b begins in
      let same : making_at p making b.state ≡ m = ap making (same_under outside alike p.vault.root p.work apart (seen a.state) (seen b.state) (seen_alike p.work a b begun)) in
      let makes_m : Went (IsMaking p ending m b.state) (λ s e. StagesOrPlaces p.work m s e.call) b c =
      subst (λ x. Went (IsMaking p ending x b.state) (λ s e. StagesOrPlaces p.work x s e.call) b c) same makes in
      went_on (IsMakingBeside p ending m a.state) (Steps a.state) a b c
      (went_more (IsBeginning p.work a.state) (IsMakingBeside p ending m a.state) (λ s e. Spares (apart_from p.work) e.call) (Steps a.state) a b
      (λ s is. item_before p ending a.state s sound is m) (λ s e spares. inl spares) begins)
      (went_more (IsMaking p ending m b.state) (IsMakingBeside p ending m a.state) (λ s e. StagesOrPlaces p.work m s e.call) (Steps a.state) b c
      (λ s is. item_then p ending a.state b.state sound begun m s is) (λ s e places. inr places) makes_m)

  module _ (t u w : Option Told) (sound : (a : Told) → t ≡ Some a → IsSound a.state) (begins : ChangesWork p.work t u) where
    item_done : (result : Result (Unit {0}) PutFault) → OnOk result (FromTo (λ a b. ShowsNewTree p a.state b.state) u w) → OnOk result (FromTo (λ a b. ShowsNewTreeBeside p a.state b.state) t w)
    item_done (Err fault) done = tt
    item_done (Ok value) done =
        begun_then p.work (λ b c. ShowsNewTree p b.state c.state) (λ a c. ShowsNewTreeBeside p a.state c.state) t u w sound
        (λ a b c sound_at first shows_new. tree_then p ending a.state b.state sound_at (went_to (IsBeginning p.work a.state) (λ s e. Spares (apart_from p.work) e.call) a b first) c.state shows_new) begins done

    under_then : IfSeen t (λ v. (x : View) × IsSeen u x × (under p.vault.root x ≡ under p.vault.root v))
    under_then v is =
        let after : (x : View) × IsSeen u x × AgreeIn (apart_from p.work) x v = seen_after p.work t u begins v is in
        (after.0, after.1, same_under outside alike p.vault.root p.work apart v after.0 after.2)

named_made : Outside → Alike → (how : How) (p : Placing) (ending : Ending) (drawn : List ℕ) (t u w : Option Told) (result : Result (Unit {0}) PutFault) → ((a : Told) → t ≡ Some a → IsSound a.state)
    → overlap p.vault.root p.work ≡ false → ChangesWork p.work t u → MakesOne how p ending drawn u w result → MakesNamed how p ending drawn t w result
named_made outside alike how p ending drawn t u w result sound apart begins one =
    let making : View → Making = making_by how p drawn in record {
      enough = one.enough;
      moments = begun_then p.work (Makings outside alike p ending making apart) (MakingsBeside outside alike p ending making apart) t u w sound (went_making outside alike p ending making apart) begins one.makes.moments;
      done = item_done outside alike p ending making apart t u w sound begins result one.makes.done;
      ends = λ v x is is_after.
          let after : (y : View) × IsSeen u y × (under p.vault.root y ≡ under p.vault.root v) = under_then outside alike p ending making apart t u w sound begins v is in
          subst (λ z. EndsAs p z (under p.vault.root x) result) after.2 (one.makes.ends after.0 x after.1 is_after);
      answer = λ v is.
          let after : (y : View) × IsSeen u y × (under p.vault.root y ≡ under p.vault.root v) = under_then outside alike p ending making apart t u w sound begins v is in
          subst (λ z. AnswersBy how p drawn ending z result) after.2 (one.answer after.0 after.1);
      tested = tested result one.tested;
      unpublished = unpublished result one.unpublished;
      zeros = one.zeros;
      accepted = one.accepted;
    }
  where
    left_so : FromTo (λ b c. IsAsBefore (is_unstaged p.work) b.state c.state) u w → FromTo (λ a c. IsAsBefore (apart_from p.work) a.state c.state) t w
    left_so same =
        begun_then p.work (λ b c. IsAsBefore (is_unstaged p.work) b.state c.state) (λ a c. IsAsBefore (apart_from p.work) a.state c.state) t u w sound
        (λ a b c sound_at first then_.
        as_before_then (apart_from p.work) a.state b.state c.state (went_to (IsBeginning p.work a.state) (λ s e. Spares (apart_from p.work) e.call) a b first).others
        (as_before_in (apart_from p.work) (is_unstaged p.work) b.state c.state (unstaged p.work) then_)) begins same

    unpublished : (result : Result (Unit {0}) PutFault) → IsUnpublished (is_unstaged p.work) u w result → IsUnpublished (apart_from p.work) t w result
    unpublished (Ok value) same = tt
    unpublished (Err puts.Failed) same = tt
    unpublished (Err puts.NoMemory) same = tt
    unpublished (Err fault) same = left_so same

    tested : (result : Result (Unit {0}) PutFault) → IfErr result (λ fault. IsOfMaking fault ⊎ (w ≡ u)) → IfErr result (λ fault. IsOfMaking fault ⊎ ChangesOnlyWork p.work t w)
    tested (Ok value) holds = tt
    tested (Err fault) (inl begun) = inl begun
    tested (Err fault) (inr same) = inr (went_alone p.work t w (subst (ChangesWork p.work t) (sym same) begins))

-- ---- at a plain path

pub item_made : Outside → Alike → (how : How) (vault : OpenedVault) (work : Path) (path : plain.Path) (item : NewItem) (ending : Ending) (drawn : List ℕ) (t u w : Option Told) (result : Result (Unit {0}) PutFault)
    → ((a : Told) → t ≡ Some a → IsSound a.state) → overlap vault.root work ≡ false → ChangesWork work t u → MakesAt how vault work path item ending drawn u w result → MakesItem how vault work path item ending drawn t w result
item_made outside alike how vault work path item ending drawn t u w result sound apart begins makes = record {
  named = λ front name is.
      named_made outside alike how (record { vault = vault; work = work; front = front; name = name; item = item }) ending drawn t u w result sound apart begins (makes.named front name is);
  root = λ is. (went_alone work t w (subst (ChangesWork work t) (sym (makes.root is).0) begins), (makes.root is).1, (makes.root is).2);
}

-- ---- what it leaves of the work folder

module _ (how : How) (vault : OpenedVault) (work : Path) (path : plain.Path) (item : NewItem) (ending : Ending) (drawn : List ℕ) (u w : Option Told) (result : Result (Unit {0}) PutFault)
    (makes : MakesAt how vault work path item ending drawn u w result) where
  -- all but the stage and the vault stays
  making_stays : StaysIn (is_apart work vault.root) u w
  making_stays = elim (base_or_child path) [
    | inl is ↦ stays_nowhere (is_apart work vault.root) u w (makes.root is).0
    | inr k ↦
        from_to_more _ _ u w (λ a b is went. went_more _ (IsAsBefore (is_apart work vault.root) a.state) _ (λ s e. Unit {0}) a b (λ s h. h.others) (λ s e h. tt) went)
        (makes.named k.0 k.1 k.2).makes.moments
  ]

  module _ (apart : overlap vault.root work ≡ false) where
    pub making_leaves : (t : Option Told) → Leaves work t u → IfSeen t (λ v. EntersAs v work (Ok tt)) → Leaves work t w
    making_leaves t first entered =
        leaves_then work t u w first entered (stays_in_part (is_unused work) (is_apart work vault.root) u w (unused_apart work vault.root apart) making_stays)

    pub making_fresh : ((a : Told) → u ≡ Some a → IsSound a.state) → IfSeen u (λ v. IsFresh v work) → OnOk result (IfSeen w (λ v. IsFresh v work))
    making_fresh sound fresh = elim (base_or_child path) [
      | inl is ↦ unmade result (subst (λ told. IfSeen told (λ v. IsFresh v work)) (sym (makes.root is).0) fresh)
      | inr k ↦ by result (makes.named k.0 k.1 k.2).makes.ready
    ]
      where
        unmade : (r : Result (Unit {0}) PutFault) → IfSeen w (λ v. IsFresh v work) → OnOk r (IfSeen w (λ v. IsFresh v work))
        unmade (Ok done) still = still
        unmade (Err fault) still = tt

        by : (r : Result (Unit {0}) PutFault) → OnOk r (IfSeen w (λ v. IsReady v work)) → OnOk r (IfSeen w (λ v. IsFresh v work))
        by (Ok done) ready = fresh_then work vault.root apart u w sound making_stays fresh ready
        by (Err fault) ready = tt

-- all tests pass of what is seen at first
pub site_gives : (change : Change) (v : View) (answer : Answer) (next : Vault → Type 0) (vault : Vault) → Opens v change.target.vault change.target.pass vault → EntersAs v change.work (Ok tt) → next vault → OfSite change v answer next
site_gives change v answer next vault opens entered holds =
    pass_gives change.target.pass (v change.target.pass) (refused answer) (λ phrase. OfWork v change.work answer (OfVault v change.target.vault phrase (refused answer) next)) opens.0 opens.1
    (Ok tt, entered, (Ok vault, opens.2, holds))

-- ---- in the vault that is opened

module _ (is_own : Answer → Bool) (change : Change) (Makes : Vault → Type 0) where
  pub vault_changed : (answer : Answer) (before after : World) (vault : Vault) → overlap change.target.vault change.work ≡ false → IfSeen before.told (λ v. Opens v change.target.vault change.target.pass vault)
      → IfSeen before.told (λ v. EntersAs v change.work (Ok tt)) → IsTrue (is_own answer) → Makes vault → Leaves change.work before.told after.told → Keeps before.taken after.taken → ChangesVault is_own change Makes answer before after
  vault_changed answer before after vault apart opens entered own makes leaves unwritten =
      made_beside is_of_beginning change.target.vault change.work (λ v. OfSite change v answer Makes) (ChangesThere is_own change Makes answer before) answer before after apart unwritten (record {
        cause = λ v seen. inr (inr (site_gives change v answer Makes vault (opens v seen) (entered v seen) makes));
        leaves = leaves;
        comes = inr (record { vault = vault; opens = opens; own = own; makes = makes });
      })

  -- where the command doesn't come to the making
  pub vault_unchanged : (answer : Answer) (w : World) (told : Option Told)
      → (overlap change.target.vault change.work ≡ true → ((answer ≡ Overlap change.target.vault change.work) ⊎ (answer ≡ OutOfMemory)) × (told ≡ w.told))
      → (overlap change.target.vault change.work ≡ false → IfSeen w.told (λ v. RefusesSite change v answer)) → (overlap change.target.vault change.work ≡ false → IsTrue (is_of_beginning answer))
      → ChangesWork change.work w.told told → Leaves change.work w.told told → ChangesVault is_own change Makes answer w (record w { told = told })
  vault_unchanged answer w told overlapping refuses own begins leaves =
      ended_before is_of_beginning change.target.vault change.work (λ v. OfSite change v answer Makes) (ChangesThere is_own change Makes answer w) answer w told overlapping
      (λ apart v seen. unless_then (OfSite change v answer (λ vault. ⊥)) (OfSite change v answer Makes) answer (site_then change v answer (λ vault. ⊥) Makes (λ vault none. absurd none)) (refuses apart v seen))
      own begins leaves

-- ---- a directory

own_fault : (result : Result (Unit {0}) PutFault) → IfErr result (λ fault. IsDirectoryFault fault) → IsTrue (is_of_directory (answer_to_making result))
own_fault (Ok done) is = refl
own_fault (Err (puts.Limit limit)) is = absurd is
own_fault (Err puts.Source) is = absurd is
own_fault (Err (puts.Find finds.Failed)) is = refl
own_fault (Err (puts.Find fault)) is = refl
own_fault (Err fault) is = refl

module _ (change : Change) where
  abbrev pub MakesIt : Answer → World → World → Vault → Type 0
  MakesIt answer before after vault = MakesIn New change NewDirectory Whole vault answer before.told after.told before.random after.random

  pub directory_made : Outside → Alike → (vault : OpenedVault) (work : Path) (answer : Answer) (result : Result (Unit {0}) PutFault) (u : Option Told) (before after : World)
      → ((a : Told) → before.told ≡ Some a → IsSound a.state) → overlap change.target.vault change.work ≡ false → vault.root ≡ change.target.vault → work ≡ change.work → ChangesWork change.work before.told u
      → ((a : Told) → u ≡ Some a → IsSound a.state) → Leaves change.work before.told u → IfSeen u (λ v. IsFresh v change.work)
      → IfSeen before.told (λ v. Opens v change.target.vault change.target.pass vault.vault) → IfSeen before.told (λ v. EntersAs v change.work (Ok tt))
      → IfErr result (λ fault. IsDirectoryFault fault) → answer ≡ answer_to_making result → MakesDirectory vault work change.target.path before.random after.random u after.told result
      → Keeps before.left after.left → Keeps before.taken after.taken → MakesDirectoryIn change answer before after
  directory_made outside alike vault work answer result u before after sound apart is_root is_work begins sound_then leaves fresh opens entered fault is makes untouched unwritten =
      let there : OpenedVault = record { root = change.target.vault; vault = vault.vault } in
      let at_root : MakesAt New there work change.target.path NewDirectory Whole makes.drawn u after.told result =
      subst (λ root. MakesAt New (record { root = root; vault = vault.vault }) work change.target.path NewDirectory Whole makes.drawn u after.told result) is_root makes.makes in
      let at_work : MakesAt New there change.work change.target.path NewDirectory Whole makes.drawn u after.told result =
      subst (λ place. MakesAt New there place change.target.path NewDirectory Whole makes.drawn u after.told result) is_work at_root in
      let made : MakesIt answer before after vault.vault = record {
        result = result;
        is = is;
        drawn = makes.drawn;
        were_drawn = makes.were_drawn;
        makes = item_made outside alike New there change.work change.target.path NewDirectory Whole makes.drawn before.told u after.told result sound apart begins at_work;
        fresh = making_fresh New there change.work change.target.path NewDirectory Whole makes.drawn u after.told result at_work apart sound_then fresh;
      } in record {
        changes = vault_changed is_of_directory change (MakesIt answer before after) answer before after vault.vault apart opens entered (subst (λ a. IsTrue (is_of_directory a)) (sym is) (own_fault result fault)) made
            (making_leaves New there change.work change.target.path NewDirectory Whole makes.drawn u after.told result at_work apart before.told leaves entered) unwritten;
        untouched = untouched;
      }
