-- Ending a migration: that the target holds all that the source held, and what writing so in the journal does.
use Rattle.std.proofs.Common.{◌≡◌, ◌≢◌, ℕ, List, ◌∷◌, ◌++◌, [], length, Option, Some, None, Result, Ok, Err, IfOk, IsErrAnd, OnOk, refl, sym, ap, ◌∙◌, subst}
use Rattle.std.proofs.Math.Path.{fun_ext}
use Rattle.chunk_files.specs.Reading.{Whole}
use Rattle.folder_spec.specs.declared.FolderFault.{FolderFault}
use Rattle.folder_spec.specs.Event.{Told, FromTo}
use Rattle.folder_spec.specs.Path.{Path}
use Rattle.folder_spec.specs.Seen.{IfSeen, IsSeen, seen, under}
use Rattle.folder_spec.specs.Region.{apart_from_both}
use Rattle.folder_spec.specs.State.{IsSound, Node}
use Rattle.folder_spec.specs.View.{View, FileOf, found}
use Rattle.folder_spec.proofs.Tellings.{from_to_more}
use Rattle.move_journal.proofs.Standing as standing
use Rattle.move_journal.specs.Journal.{IsJournal}
use Rattle.move_journal.specs.Reading.{StandsIn}
use Rattle.work_folder.specs.Entries.{journal_path}
use Rattle.move_journal.specs.Writing.{Writes, HasWritten}
use Rattle.move_journal.specs.declared.journal.Journal.{Journal}
use Rattle.move_journal.specs.declared.journal.Phase.TheVariants as phase
use Rattle.plain_tree.specs.declared.name_map.NameMap.{NameMap}
use Rattle.migration_spec.specs.Alone.{Progress, Unbegun, Begun, Finished, IsAlone, IsIn, StaysGuarded}
use Rattle.tree_match.specs.Comparing.{Is, bytes_found, content_of}
use Rattle.migration_spec.specs.Guard.{Migration, HoldsAll, HoldsSource, IsThere, Tells, tree_at}
use Rattle.vault_spec.specs.Mapped.{HasNoBroken, IsHeldIn, IsMapped, IsPartOfMapped, IsWhole, StaysApart}
use Rattle.migration_sides.specs.Sides.{IsWalked, opened_in}
use Rattle.folder_spec.specs.Apart.{AreSeparate}
use Rattle.tree_match.specs.Trees.{PlannedVault, HoldsAllBy, AsSame, IsMappedWalkOf, IsWalkOf, match_of, side_of, tree_of}
use Rattle.tree_match.specs.declared.answer.Match.TheVariants.{Same}
use Rattle.vault_spec.specs.Opened.{OpenedVault}
use Rattle.vault_read.specs.Contents.{limited_reading}
use Rattle.vault_read.specs.OwnFolders.{HasOwnFolders}
use Rattle.vault_spec.specs.Findings.{IsClean}
use Rattle.vault_spec.specs.Format.{Format}
use Rattle.vault_spec.specs.Opens.{Opened, NoItem, Directory, Content, Broken, Tree, opened, tree}
use Rattle.vault_spec.specs.Plan.{Planned}
use Rattle.vault_spec.specs.Standing.{File, standing}
use Rattle.vault_spec.specs.Vault.{IsVault, Vault, format_of}
use Rattle.migrate_core.proofs.Keeping.{still_opens, still_seen}
use Rattle.tree_match.proofs.Passing.{MappedStayApart}
use Rattle.migrate_core.proofs.Leadings.{if_ok}
use Rattle.migrate_core.proofs.MappedItems.{mapped_count}
use Rattle.migrate_core.proofs.Movings.{mapped_walk, moves_to, source_beside, turned_over, under_stays}
use Rattle.migrate_core.proofs.Planned.{SeenAlone, seen_of, source_held, source_mapped_walk, walk_of}
use Rattle.migrate_core.proofs.SameItems.{same_length}
use Rattle.migrate_core.proofs.Wholes.{source_whole, target_whole}
use Rattle.migrate_core.specs.Copying.{StayGood}
use Rattle.migrate_core.specs.Leading.{FinishesFrom, Goes, Leads, progress_of}
use Rattle.vault_walk.specs.Surveyed.{IsPlanOf}
use Rattle.migrate_core.specs.Limits.{EndsBy}
use Rattle.migrate_core.specs.declared.fault.MoveFault.{MoveFault}
use Rattle.migrate_core.specs.declared.placing.Done.{Done}
use Rattle.migrate_core.specs.Lasting.{HaveToldTrees, StaysBeside}
use Rattle.migrate_core.specs.Moved.{HasMoved, HasPlaced, HaveMappedTree, Moved, MovesTold, MovesTree, Placed, done_of, lacking}
use Rattle.migrate_core.specs.Moving.{MovesOnly}
use Rattle.migrate_core.specs.Sides.{AreItemsToMove, AreSides, AreTold, IsMappedWalk}
use Rattle.migration_spec.proofs.Tellings.{AreSound}

-- the target is there, however far the migration has come
pub target_in : (g : Migration) (p : Progress) (v : View) → IsIn g p v → IsThere g.target v
target_in g Unbegun v is = is.target
target_in g Begun v is = is.target
target_in g Finished v is = is.target.there

-- the root of a vault opens
pub root_directory : (f : Format) (u : View) → tree f u [] ≡ Directory
unfolding opened
root_directory f u = refl

abbrev pub HoldsHeld : Type 0
HoldsHeld = (v : View) (names : NameMap) (a b : PlannedVault) → IsMappedWalkOf names v a → IsWalkOf v b → HoldsAllBy (match_of v a b) → IsHeldIn names (tree_of v a) (tree_of v b)

abbrev pub SameIsPart : Type 0
SameIsPart = (v : View) (names : NameMap) (a b : PlannedVault) → IsMappedWalkOf names v a → IsWalkOf v b → match_of v a b ≡ Is Same → IsPartOfMapped names (tree_of v b) (tree_of v a)

-- a tree that is held in another, of which that is part, comes to that
abbrev pub BothAreMapped : Type 0
BothAreMapped = (names : NameMap) (m t : Tree) → t [] ≡ m [] → IsHeldIn names m t → IsPartOfMapped names t m → IsMapped names m t

-- a tree that is held in another has no broken file, where its root is a directory
held_whole : (rule : NameMap) (m t : Tree) → m [] ≡ Directory → IsHeldIn rule m t → HasNoBroken m
held_whole rule m t root held [] = subst IsWhole (sym root) tt
held_whole rule m t root held (name ∷ rest) = by (m (name ∷ rest)) refl
  where
    some : (o : Opened) → m (name ∷ rest) ≡ o → o ≢ NoItem → IsWhole o
    some o is item = subst IsWhole is (held (name ∷ rest) (λ e. cc e) (λ none. item (sym is ∙ none))).1

    by : (o : Opened) → m (name ∷ rest) ≡ o → IsWhole o
    by NoItem is = tt
    by Directory is = tt
    by (Content bytes) is = tt
    by (Broken chunks fault) is = some (Broken chunks fault) is (λ e. cc e)

module _ (held_in : HoldsHeld) (same_part : SameIsPart) (mapped : BothAreMapped) (rule : NameMap) (from to : OpenedVault) (items others : List Planned) (v : View) (walk : IsMappedWalkOf rule v (side_of from items)) (walk_to : IsWalkOf v (side_of to others))
    (same : match_of v (side_of from items) (side_of to others) ≡ Is Same) where
  same_held : IsHeldIn rule (tree_at from v) (tree_at to v)
  same_held = held_in v rule (side_of from items) (side_of to others) walk walk_to (subst HoldsAllBy (sym same) AsSame)

  -- of two vaults that compare as the same the second has the mapped tree of the first
  pub same_mapped : IsMapped rule (tree_at from v) (tree_at to v)
  same_mapped =
      mapped rule (tree_at from v) (tree_at to v) (root_directory (format_of to.vault) (under to.root v) ∙ sym (root_directory (format_of from.vault) (under from.root v))) same_held
      (same_part v rule (side_of from items) (side_of to others) walk walk_to same)

  pub same_whole : HasNoBroken (tree_at from v)
  same_whole = held_whole rule (tree_at from v) (tree_at to v) (root_directory (format_of from.vault) (under from.root v)) same_held

-- where the two vaults compare as the same, the target holds all that the source held
pub holds_all : SeenAlone → MappedStayApart → HoldsHeld → SameIsPart → BothAreMapped → (g : Migration) (p : Progress) (t : Option Told) (a : Told) (items others : List Planned) → t ≡ Some a → IsAlone g p a.state
    → IsMappedWalk g.names t g.source items → IsWalked t g.target others
    → match_of (seen a.state) (side_of g.source items) (side_of g.target others) ≡ Is Same → HoldsAll g (seen a.state)
holds_all shown apart held_in same_part mapped g p t a items others is at walked walked_target same = record {
  held = subst (λ m. IsMapped g.names m (tree_at g.target v)) source_is (same_mapped held_in same_part mapped g.names g.source g.target items others v from_walk to_walk same);
  apart = subst (StaysApart g.names) source_is (apart v g.names (side_of g.source items) from_walk);
  whole = subst HasNoBroken source_is (same_whole held_in same_part mapped g.names g.source g.target items others v from_walk to_walk same);
}
  where
    v : View
    v = seen a.state

    source : HoldsSource g v
    source = source_held shown g p a.state at

    source_is : tree_at g.source v ≡ g.held
    source_is = fun_ext source.held

    target : IsThere g.target v
    target = target_in g p v (shown g p a.state at)

    from_walk : IsMappedWalkOf g.names v (side_of g.source items)
    from_walk = source_mapped_walk shown g p t a items is at walked

    to_walk : IsWalkOf v (side_of g.target others)
    to_walk = walk_of g.target others t v walked_target (seen_of t a is) target.good.orderly

-- ---- the journal says so

abbrev pub JournalFinishes : Type 0
JournalFinishes = (g : Migration) (j : Journal) (a b : Told) → IsAlone g Begun a.state → HoldsAll g (seen a.state) → IsJournal j → j.phase ≡ phase.Done → Tells g j
    → Writes g.work j (Some a) (Some b) → StaysGuarded g a b

abbrev pub JournalFinished : Type 0
JournalFinished = (g : Migration) (j : Journal) (a b : Told) → IsAlone g Begun a.state → HoldsAll g (seen a.state) → IsJournal j → j.phase ≡ phase.Done → Tells g j
    → IsSound b.state → Writes g.work j (Some a) (Some b) → HasWritten g.work j (Some a) (Some b) → IsAlone g Finished b.state

-- a journal that says so is written
pub says_done : JournalFinishes → JournalFinished → (g : Migration) (j : Journal) (t u : Option Told) (result : Result (Unit {0}) FolderFault) → IsJournal j → j.phase ≡ phase.Done → Tells g j → AreSound u
    → Writes g.work j t u → OnOk result (HasWritten g.work j t u) → FinishesFrom g Begun t u result
says_done finishes finished g j (Some a) (Some b) result is phase tells sound writes written = (λ at holds. finishes g j a b at holds is phase tells writes, then_ result written)
  where
    then_ : (result : Result (Unit {0}) FolderFault) → OnOk result (HasWritten g.work j (Some a) (Some b)) → IfOk result (λ value. IsAlone g Begun a.state → HoldsAll g (seen a.state) → IsAlone g Finished b.state)
    then_ (Ok done) written = λ at holds. finished g j a b at holds is phase tells (sound b refl) writes written
    then_ (Err fault) written = tt
says_done finishes finished g j None None result is phase tells sound writes written = (tt, if_ok (Unit {0}) result tt)
says_done finishes finished g j None (Some b) result is phase tells sound writes written = absurd writes
says_done finishes finished g j (Some a) None result is phase tells sound writes written = absurd writes

pub done_is : (j : Journal) → IsJournal j → IsJournal (done_of j)
done_is j is = record { source = is.source; target = is.target; items = is.items; plan = is.plan }

pub done_tells : (g : Migration) (j : Journal) → Tells g j → Tells g (done_of j)
done_tells g j tells = record { source = tells.source; target = tells.target; names = tells.names; plan = tells.plan; is_plan = tells.is_plan; items = tells.items; digest = tells.digest }

-- where the target holds all, that leads on
pub finishes_goes : {T E : Type 0} (g : Migration) (p : Progress) (t u : Option Told) (result : Result T E) → ((a : Told) → t ≡ Some a → IsAlone g p a.state → HoldsAll g (seen a.state))
    → FinishesFrom g p t u result → Goes g p Finished t u result
finishes_goes {T = T} {E = E} g p t u result holds h = (
  from_to_more (λ a b. IsAlone g p a.state → HoldsAll g (seen a.state) → StaysGuarded g a b) (λ a b. IsAlone g p a.state → StaysGuarded g a b) t u (λ a b is stays at. stays at (holds a is at)) h.0,
  then_ result h.1,
)
  where
    then_ : (result : Result T E) → IfOk result (λ value. FromTo (λ a b. IsAlone g p a.state → HoldsAll g (seen a.state) → IsAlone g Finished b.state) t u) → IfOk result (λ value. Leads g p Finished t u)
    then_ (Ok value) leads = from_to_more (λ a b. IsAlone g p a.state → HoldsAll g (seen a.state) → IsAlone g Finished b.state) (λ a b. IsAlone g p a.state → IsAlone g Finished b.state) t u
        (λ a b is lead at. lead at (holds a is at)) leads
    then_ (Err fault) leads = tt

-- whatever writing it answers, of a journal that doesn't say so yet
pub says_done_here : JournalFinishes → JournalFinished → (g : Migration) (work : Path) (j : Journal) (t u : Option Told) (result : Result (Unit {0}) FolderFault) → work ≡ g.work → IsJournal j → j.phase ≡ phase.Building → Tells g j
    → AreSound u → Writes work (done_of j) t u → OnOk result (HasWritten work (done_of j) t u) → FinishesFrom g (progress_of j.phase) t u result
says_done_here finishes finished g work j t u result same is phase tells sound writes written =
    subst (λ p. FinishesFrom g (progress_of p) t u result) (sym phase)
    (says_done finishes finished g (done_of j) t u result (done_is j is) refl (done_tells g j tells) sound (subst (λ w. Writes w (done_of j) t u) same writes)
    (subst (λ w. OnOk result (HasWritten w (done_of j) t u)) same written))

-- another refusal
pub says_failed : {T U E D : Type 0} (Q : D → Type 0) (g : Migration) (j : Journal) (t u : Option Told) (result : Result T E) (other : Result U D) → IsErrAnd other Q
    → FinishesFrom g (progress_of j.phase) t u result → FinishesFrom g (progress_of j.phase) t u other
says_failed Q g j t u result (Ok value) refused h = absurd refused
says_failed Q g j t u result (Err fault) refused h = (h.0, tt)

-- and so does what ends a migration between two vaults that compare as the same
pub finish_goes : {T E : Type 0} → SeenAlone → MappedStayApart → HoldsHeld → SameIsPart → BothAreMapped → (g : Migration) (rule : NameMap) (from to : OpenedVault) (work : Path) → AreSides g rule from to work
    → (p : Progress) (items others : List Planned) (t u : Option Told) (result : Result T E)
    → IsMappedWalk rule t from items → IsWalked t to others → IfSeen t (λ v. match_of v (side_of from items) (side_of to others) ≡ Is Same)
    → FinishesFrom g p t u result → Goes g p Finished t u result
finish_goes shown apart held_in same_part mapped g rule from to work sides p items others t u result walked walked_target same h =
    finishes_goes g p t u result
    (λ a is at. holds_all shown apart held_in same_part mapped g p t a items others is at
    (subst (λ names. IsMappedWalk names t g.source items) sides.names (subst (λ x. IsMappedWalk rule t x items) sides.source walked)) (subst (λ x. IsWalked t x others) sides.target walked_target)
    (subst (λ y. match_of (seen a.state) (side_of g.source items) (side_of y others) ≡ Is Same) sides.target
    (subst (λ x. match_of (seen a.state) (side_of x items) (side_of to others) ≡ Is Same) sides.source (same (seen a.state) (seen_of t a is))))) h

-- ---- in the end

-- of two walked vaults that compare as the same the second has the mapped tree of the first
one_tree : HoldsHeld → SameIsPart → BothAreMapped → (rule : NameMap) (from to : OpenedVault) (items others : List Planned) (t : Option Told) → IsMappedWalk rule t from items → IsWalked t to others
    → IfSeen t (λ v. match_of v (side_of from items) (side_of to others) ≡ Is Same) → IfSeen t (λ v. HaveMappedTree rule from to v)
one_tree held_in same_part mapped rule from to items others t walked walked_target same v is own own_target =
    same_mapped held_in same_part mapped rule from to items others v (record { own = walked.own; walk = walked.walked.plan v is own; mapped = walked.mapped }) (walked_target.plan v is own_target) (same v is)

-- nor does it part while both stay as they were
pub trees_beside : HoldsHeld → SameIsPart → BothAreMapped → (rule : NameMap) (from to : OpenedVault) (work : Path) (own items others : List Planned) (t : Option Told) → AreSeparate from.root to.root work
    → AreItemsToMove rule t from own items → IsWalked t to others → IfSeen t (λ v. match_of v (side_of from items) (side_of to others) ≡ Is Same)
    → (a : Told) → t ≡ Some a → (w : View) → StaysBeside work t w → HaveMappedTree rule from to w
trees_beside held_in same_part mapped rule from to work own items others t separate moving walked_target same a here w stays alone alone_target =
    subst (λ x. IsMapped rule (tree (format_of from.vault) (under from.root w)) (tree (format_of to.vault) x)) (sym to_same)
    (subst (λ x. IsMapped rule (tree (format_of from.vault) x) (tree_at to v)) (sym from_same)
    (one_tree held_in same_part mapped rule from to items others t (mapped_walk rule t from own items moving) walked_target same v is
    (subst (HasOwnFolders from.vault) from_same alone) (subst (HasOwnFolders to.vault) to_same alone_target)))
  where
    v : View
    v = seen a.state

    is : IsSeen t v
    is = subst (λ o. IsSeen o v) (sym here) refl

    from_same : under from.root w ≡ under from.root v
    from_same = stays v from.root is separate.source

    to_same : under to.root w ≡ under to.root v
    to_same = stays v to.root is separate.target

-- what is seen of two vaults that are left alone
pub has_moved : HoldsHeld → SameIsPart → BothAreMapped → (from to : OpenedVault) (work : Path) (own items others : List Planned) (journal : Journal) (t u : Option Told) → AreSeparate from.root to.root work → AreSound t
    → IsJournal journal → journal.source ≡ from.root → journal.target ≡ to.root → AreTold journal own → AreItemsToMove journal.names t from own items → IsWalked t to others
    → IfSeen t (λ v. match_of v (side_of from items) (side_of to others) ≡ Is Same)
    → MovesOnly work to.root t u → MovesOnly work from.root t u → IfSeen u (λ v. StandsIn work (done_of journal) v)
    → (count : ℕ) → count ≡ length others → IfSeen u (λ v. HasMoved journal.names from to work count v)
has_moved held_in same_part mapped from to work own items others journal (Some a) (Some b) separate sound is source target told_items moving walked_target same beside_target beside_source says count counted v seen_is =
    record {
      source = subst (IsClean (format_of from.vault)) (sym from_same) (moving.walked.clean w refl);
      target = subst (IsClean (format_of to.vault)) (sym to_same) (walked_target.clean w refl);
      trees = λ alone alone_target.
          subst (λ x. IsMapped journal.names (tree (format_of from.vault) (under from.root v)) (tree (format_of to.vault) x)) (sym to_same)
          (subst (λ x. IsMapped journal.names (tree (format_of from.vault) x) (tree_at to w)) (sym from_same)
          (one_tree held_in same_part mapped journal.names from to items others (Some a) (mapped_walk journal.names (Some a) from own items moving) walked_target same w refl
          (subst (HasOwnFolders from.vault) from_same alone) (subst (HasOwnFolders to.vault) to_same alone_target)));
      source_contents = λ alone path rest stands.
          subst (λ (x : View). HasOwnFolders from.vault x → standing (format_of from.vault) x path ≡ File rest → (content_of (from.root ++ rest) (limited_reading (format_of from.vault).content (bytes_found (x rest)))).ending ≡ Whole) (sym from_same)
          (λ alone_there stood. source_whole journal.names from to items others w (same w refl) (record { own = own; walk = moving.walked.plan w refl alone_there; mapped = moving.same }) path rest stood) alone stands;
      target_contents = λ alone path rest stands.
          subst (λ (x : View). HasOwnFolders to.vault x → standing (format_of to.vault) x path ≡ File rest → (content_of (to.root ++ rest) (limited_reading (format_of to.vault).content (bytes_found (x rest)))).ending ≡ Whole) (sym to_same)
          (λ alone_there stood. target_whole journal.names from to items others w (same w refl) (walked_target.plan w refl alone_there) path rest stood) alone stands;
      items = λ alone.
          (others, subst (λ x. IsPlanOf to.root (format_of to.vault) x others) (sym to_same) (walked_target.plan w refl (subst (HasOwnFolders to.vault) to_same alone)), counted);
      says = record {
        journal = done_of journal;
        is = done_is journal is;
        phase = refl;
        names = refl;
        source = source;
        target = target;
        items = told_items.1 ∙ mapped_count journal.names own items moving.same ∙ same_length w (side_of from items) (side_of to others) moving.same.ordered (walked_target.ordered w refl) (same w refl) ∙ sym counted;
        stands = says v seen_is;
      };
      tells = λ alone.
          (own, subst (λ x. IsPlanOf from.root (format_of from.vault) x own) (sym from_same) (moving.walked.plan w refl (subst (HasOwnFolders from.vault) from_same alone)), told_items);
    }
  where
    w : View
    w = seen a.state

    from_same : under from.root v ≡ under from.root w
    from_same = ap (under from.root) seen_is ∙ under_stays (apart_from_both work to.root) from.root a.state b.state (sound a refl) (λ rest. source_beside from.root to.root work rest separate)
        (moves_to work (apart_from_both work to.root) to.root (Some a) (Some b) beside_target)

    to_same : under to.root v ≡ under to.root w
    to_same = ap (under to.root) seen_is ∙ under_stays (apart_from_both work from.root) to.root a.state b.state (sound a refl) (λ rest. source_beside to.root from.root work rest (turned_over from.root to.root work separate))
        (moves_to work (apart_from_both work from.root) from.root (Some a) (Some b) beside_source)
has_moved held_in same_part mapped from to work own items others journal None None separate sound is source target told_items moving walked_target same beside_target beside_source says count counted v seen_is = absurd seen_is
has_moved held_in same_part mapped from to work own items others journal None (Some b) separate sound is source target told_items moving walked_target same beside_target beside_source says count counted v seen_is = absurd beside_target
has_moved held_in same_part mapped from to work own items others journal (Some a) None separate sound is source target told_items moving walked_target same beside_target beside_source says count counted v seen_is = absurd seen_is

-- after it is written that all is done, that stands
pub written_stands : (work : Path) (j : Journal) (t u : Option Told) → HasWritten work j t u → IfSeen u (λ v. StandsIn work j v)
written_stands work j (Some a) (Some b) written v is =
    standing.written_stands work v j (ap (λ (w : View). w (journal_path work)) is ∙ ap (found (λ n. (b.state.nodes n).now)) written.replaced.new.is ∙ ap (λ (node : Node). FileOf node.now) written.replaced.new.holds)
written_stands work j None None written v is = absurd is
written_stands work j (Some a) None written v is = absurd is
written_stands work j None (Some b) written v is = absurd written

-- ---- by roots and passphrases

-- a vault to which only something was brought is opened as it was, where it is clean
opened_still : (work to : Path) (pass : List ℕ) (vault : Vault) (t u : Option Told) → AreSound t → MovesOnly work to t u → IfSeen t (λ v. IsVault (under to v) pass vault)
    → IfSeen u (λ v. IsClean (format_of vault) (under to v)) → IfSeen u (λ v. IsVault (under to v) pass vault)
opened_still work to pass vault (Some a) (Some b) sound went opens clean v is =
    still_opens (under to (seen a.state)) (under to v) pass vault
    (λ at stands. ap (λ (w : View). w (to ++ at)) is ∙ still_seen work to at a b (sound a refl) went stands) (clean v is) (opens (seen a.state) refl)
opened_still work to pass vault None u sound went opens clean v is = absurd (none_known u went is)
  where
    none_known : (u : Option Told) → MovesOnly work to None u → IsSeen u v → ⊥
    none_known None went is = is
    none_known (Some b) went is = went
opened_still work to pass vault (Some a) None sound went opens clean v is = absurd is

opened_is : (x : OpenedVault) (root : Path) → x.root ≡ root → x ≡ opened_in root x.vault
opened_is x root is = ap (λ r. opened_in r x.vault) is

pub told_trees : (pass pass' : List ℕ) (v w : View) (journal : Journal) (rule : NameMap) (source target : OpenedVault) → rule ≡ journal.names → source.root ≡ journal.source → target.root ≡ journal.target
    → IsVault (under journal.source v) pass source.vault → IsVault (under journal.target v) pass' target.vault → HaveMappedTree rule source target w → HaveToldTrees pass pass' v journal w
told_trees pass pass' v w journal rule source target named source_at target_at opens opens_target trees = record {
  source = source.vault;
  target = target.vault;
  opens_source = opens;
  opens_target = opens_target;
  trees = subst (λ x. HaveMappedTree journal.names x (opened_in journal.target target.vault) w) (opened_is source journal.source source_at)
      (subst (λ y. HaveMappedTree journal.names source y w) (opened_is target journal.target target_at) (subst (λ n. HaveMappedTree n source target w) named trees));
}

pub tree_moved : (Q : Type 0) (names : NameMap) (from to work : Path) (from_pass to_pass : List ℕ) (source target : OpenedVault) (t u : Option Told) (result : Result Done MoveFault) → source.root ≡ from → target.root ≡ to → AreSound t → MovesOnly work to t u
    → IfSeen t (λ v. IsVault (under from v) from_pass source.vault) → IfSeen t (λ v. IsVault (under to v) to_pass target.vault)
    → Placed names source target t result → Moved names source target work u result → EndsBy (StayGood source target t u) Q names source target u result → IfOk result (λ done. MovesTree names from to work from_pass to_pass done t u)
tree_moved Q names from to work from_pass to_pass source target t u (Ok done) source_at target_at sound went opens opens_target placed moved ends = record {
  source = source.vault;
  target = target.vault;
  opens_source = opens;
  opens_target = opens_target;
  placed = λ v is. subst (λ x. HasPlaced names x (opened_in to target.vault) done.placed v) (opened_is source from source_at) (subst (λ y. HasPlaced names source y done.placed v) (opened_is target to target_at) (placed v is));
  moved = λ v is. subst (λ x. HasMoved names x (opened_in to target.vault) work done.items v) (opened_is source from source_at) (subst (λ y. HasMoved names source y work done.items v) (opened_is target to target_at) (moved v is));
  opens_still = opened_still work to to_pass target.vault t u sound went opens_target
      (λ v is. subst (λ root. IsClean (format_of target.vault) (under root v)) target_at (moved v is).target);
  stays_good = subst (λ x. StayGood x (opened_in to target.vault) t u) (opened_is source from source_at) (subst (λ y. StayGood source y t u) (opened_is target to target_at) ends);
}
tree_moved Q names from to work from_pass to_pass source target t u (Err fault) source_at target_at sound went opens opens_target placed moved ends = tt

-- what is seen at first is seen where the vaults are opened
pub moved_before : (names : NameMap) (from to work : Path) (from_pass to_pass : List ℕ) (done : Done) (t0 t u : Option Told) → IfSeen t0 (λ v. IsSeen t v) → MovesTree names from to work from_pass to_pass done t u → MovesTree names from to work from_pass to_pass done t0 u
moved_before names from to work from_pass to_pass done t0 t u before moves = record {
  source = moves.source;
  target = moves.target;
  opens_source = λ v is. moves.opens_source v (before v is);
  opens_target = λ v is. moves.opens_target v (before v is);
  placed = λ v is. moves.placed v (before v is);
  moved = moves.moved;
  opens_still = moves.opens_still;
  stays_good = λ v w is. moves.stays_good v w (before v is);
}

pub told_before : (work : Path) (from_pass to_pass : List ℕ) (done : Done) (t0 t u : Option Told) → IfSeen t0 (λ v. IsSeen t v) → (v : View) → MovesTold work from_pass to_pass done t u v → MovesTold work from_pass to_pass done t0 u v
told_before work from_pass to_pass done t0 t u before v told = record {
  journal = told.journal;
  is = told.is;
  stands = told.stands;
  moves = moved_before told.journal.names told.journal.source told.journal.target work from_pass to_pass done t0 t u before told.moves;
}

pub if_ok_more : {T E : Type 0} (P Q : T → Type 0) (result : Result T E) → ((value : T) → P value → Q value) → IfOk result P → IfOk result Q
if_ok_more P Q (Ok value) more h = more value h
if_ok_more P Q (Err fault) more h = tt

-- of two walks, so many items were placed
pub placed_of : {E : Type 0} (rule : NameMap) (from to : OpenedVault) (own items there : List Planned) (t : Option Told) (result : Result Done E) → AreItemsToMove rule t from own items → IsWalked t to there
    → IfOk result (λ done. IfSeen t (λ v. done.placed ≡ lacking there items)) → Placed rule from to t result
placed_of rule from to own items there t (Ok done) moving walked_target placed = λ v is alone alone_target.
    (items, there, record { own = own; are = moving.walked.plan v is alone; same = moving.same }, walked_target.plan v is alone_target, placed v is)
placed_of rule from to own items there t (Err fault) moving walked_target placed = tt
