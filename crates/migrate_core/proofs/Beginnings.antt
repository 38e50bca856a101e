-- Beginning a migration: the work folder is made ready, and the journal is written.
use Rattle.std.proofs.Common.{◌≡◌, ◌≤◌, List, length, Option, Some, None, Result, Ok, Err, OnOk, IfOk, refl, sym, ap, ◌∙◌, subst}
use Rattle.std.proofs.Math.Path.{fun_ext}
use Rattle.folder_spec.specs.declared.FolderFault.{FolderFault}
use Rattle.plain_tree.specs.declared.name_map.NameMap.{NameMap}
use Rattle.folder_spec.specs.Event.{Told, FromTo}
use Rattle.folder_spec.specs.Moments.{Went}
use Rattle.folder_spec.specs.Path.{Path}
use Rattle.folder_spec.specs.Region.{SparesOld}
use Rattle.folder_spec.specs.Seen.{seen}
use Rattle.folder_spec.specs.State.{IsSound}
use Rattle.folder_model.specs.Text.{IsParsed}
use Rattle.move_journal.specs.Journal.{IsDigest, IsJournal, journal_text}
use Rattle.move_journal.specs.Writing.{IsWriting, Writes, HasWritten, elsewhere}
use Rattle.move_journal.specs.declared.journal.Journal.{Journal}
use Rattle.move_journal.specs.declared.journal.Phase.TheVariants.{Building}
use Rattle.migration_spec.specs.Alone.{Progress, Unbegun, Begun, IsAlone, StaysAlone, StaysGuarded}
use Rattle.migration_sides.specs.Sides.{IsWalked}
use Rattle.migration_spec.specs.Guard.{Migration, Tells, tree_at}
use Rattle.vault_spec.specs.PlanOf.{IsPlanOf}
use Rattle.vault_spec.specs.Mapped.{AllowsTree, StaysApart}
use Rattle.tree_match.specs.Mapping.{IsMappedPlan}
use Rattle.tree_match.specs.Trees.{IsWalkOf, side_of}
use Rattle.vault_spec.specs.Opened.{OpenedVault}
use Rattle.vault_spec.specs.Plan.{Planned}
use Rattle.vault_spec.specs.Vault.{format_of}
use Rattle.vault_walk.specs.Survey.{item_limit}
use Rattle.work_folder.specs.Changing.{ChangesAt}
use Rattle.work_folder.specs.Entering.{IsWorkOrStage, IsLeftOver}
use Rattle.migrate_core.proofs.Fronts.{allows_tree}
use Rattle.vault_walk.proofs.Walks.{StandBelow}
use Rattle.migrate_core.proofs.Leadings.{alone_goes, goes_given, goes_on}
use Rattle.migrate_core.proofs.Planned.{SeenAlone, source_held, source_walk}
use Rattle.migrate_core.specs.Leading.{Goes, Leads, LeadsEach, LeadsTold}
use Rattle.migrate_core.specs.Sides.{AllowsEachMapped, AreItemsToMove, AreSides, new_journal}
use Rattle.migration_spec.proofs.Tellings.{AreSound}
use Rattle.tree_match.proofs.Passing.{MappedStayApart, TellsTree}

-- ---- what is known of a migration whose source was walked

module _ (shown : SeenAlone) (plans : TellsTree) (g : Migration) (p : Progress) (t : Option Told) (a : Told) (items : List Planned) (is : t ≡ Some a) (at : IsAlone g p a.state)
    (walked : IsWalked t g.source items) where
  walk_seen : IsWalkOf (seen a.state) (side_of g.source items)
  walk_seen = source_walk shown g p t a items is at walked

  plan_seen : IsPlanOf (tree_at g.source (seen a.state)) items
  plan_seen = plans (seen a.state) (side_of g.source items) walk_seen

  -- its journal tells it
  pub tells_new : Tells g (new_journal g.names g.source.root g.target.root items)
  tells_new = record {
    source = refl;
    target = refl;
    names = refl;
    plan = items;
    is_plan = subst (λ m. IsPlanOf m items) (fun_ext (source_held shown g p a.state at).held) plan_seen;
    items = refl;
    digest = refl;
  }

  -- and the target allows each mapped name of it, where it does of the walk
  pub names_allowed : StandBelow → AllowsEachMapped g.names (format_of g.target.vault) items → AllowsTree g.names (format_of g.target.vault) g.held
  names_allowed below allowed = allows_tree below g (seen a.state) items (source_held shown g p a.state at) plan_seen allowed

  -- and no two of its items come to one path, where the walk is mapped
  pub held_apart : MappedStayApart → (mapped : List Planned) → IsMappedPlan g.names items mapped → StaysApart g.names g.held
  held_apart apart mapped same =
      subst (StaysApart g.names) (fun_ext (source_held shown g p a.state at).held) (apart (seen a.state) g.names (side_of g.source mapped) (record { own = items; walk = walk_seen; mapped = same }))

-- ---- the work folder

abbrev pub EntersAlone : Type 0
EntersAlone = (g : Migration) (p : Progress) (a b : Told) → IsAlone g p a.state → ChangesAt g.work (IsWorkOrStage g.work) (IsLeftOver g.work) (Some a) (Some b) → StaysAlone g p a b

pub enters_goes : {T E : Type 0} → EntersAlone → (g : Migration) (p : Progress) (t u : Option Told) (result : Result T E) → ChangesAt g.work (IsWorkOrStage g.work) (IsLeftOver g.work) t u → Goes g p p t u result
enters_goes enters g p (Some a) (Some b) result changes = alone_goes g p (Some a) (Some b) result (λ at. enters g p a b at changes)
enters_goes enters g p None None result changes = alone_goes g p None None result tt
enters_goes enters g p None (Some b) result changes = absurd changes
enters_goes enters g p (Some a) None result changes = absurd changes

-- ---- the journal

abbrev pub JournalBegins : Type 0
JournalBegins = (g : Migration) (j : Journal) (a b : Told) → IsAlone g Unbegun a.state → StaysApart g.names g.held → AllowsTree g.names (format_of g.target.vault) g.held → IsJournal j → j.phase ≡ Building → Tells g j
    → Writes g.work j (Some a) (Some b) → StaysGuarded g a b

abbrev pub JournalBegun : Type 0
JournalBegun = (g : Migration) (j : Journal) (a b : Told) → IsAlone g Unbegun a.state → StaysApart g.names g.held → AllowsTree g.names (format_of g.target.vault) g.held → IsJournal j → j.phase ≡ Building → Tells g j
    → IsSound b.state → Writes g.work j (Some a) (Some b) → HasWritten g.work j (Some a) (Some b) → IsAlone g Begun b.state

-- what a journal that begins tells, and of which target
pub record MayTell (g : Migration) (j : Journal) : Type 0 where
  pub apart : StaysApart g.names g.held
  pub allows : AllowsTree g.names (format_of g.target.vault) g.held
  pub tells : Tells g j

pub journal_goes : JournalBegins → JournalBegun → (g : Migration) (j : Journal) (t u : Option Told) (result : Result (Unit {0}) FolderFault)
    → MayTell g j → IsJournal j → j.phase ≡ Building → AreSound u → Writes g.work j t u → OnOk result (HasWritten g.work j t u) → Goes g Unbegun Begun t u result
journal_goes begins begun g j (Some a) (Some b) result may is phase sound writes written = (λ at. begins g j a b at may.apart may.allows is phase may.tells writes, then_ result written)
  where
    then_ : (result : Result (Unit {0}) FolderFault) → OnOk result (HasWritten g.work j (Some a) (Some b)) → IfOk result (λ value. Leads g Unbegun Begun (Some a) (Some b))
    then_ (Ok done) written = λ at. begun g j a b at may.apart may.allows is phase may.tells (sound b refl) writes written
    then_ (Err fault) written = tt
journal_goes begins begun g j None None result may is phase sound writes written = (tt, then_ result)
  where
    then_ : (result : Result (Unit {0}) FolderFault) → IfOk result (λ value. Leads g Unbegun Begun None None)
    then_ (Ok done) = tt
    then_ (Err fault) = tt
journal_goes begins begun g j None (Some b) result may is phase sound writes written = absurd writes
journal_goes begins begun g j (Some a) None result may is phase sound writes written = absurd writes

-- the new journal of a migration between two vaults is that of theirs
new_is : (g : Migration) (rule : NameMap) (from to : OpenedVault) (work : Path) (items : List Planned) → AreSides g rule from to work → new_journal rule from.root to.root items ≡ new_journal g.names g.source.root g.target.root items
new_is g rule from to work items sides =
    ap (λ (n : NameMap). new_journal n from.root to.root items) sides.names
    ∙ ap (λ (x : OpenedVault). new_journal g.names x.root to.root items) sides.source
    ∙ ap (λ (x : OpenedVault). new_journal g.names g.source.root x.root items) sides.target

pub record AreCited : Type 0 where
  pub shown : SeenAlone
  pub plans : TellsTree
  pub apart : MappedStayApart
  pub below : StandBelow
  pub enters : EntersAlone
  pub begins : JournalBegins
  pub begun : JournalBegun

-- of a migration whose source was walked, and of which the target allows each mapped name
pub new_journal_goes : AreCited → (rule : NameMap) (from to : OpenedVault) (work : Path) (items mapped : List Planned) (t u : Option Told) (result : Result (Unit {0}) FolderFault)
    → AreItemsToMove rule t from items mapped → AllowsEachMapped rule (format_of to.vault) items → AreSound u → IsJournal (new_journal rule from.root to.root items)
    → Writes work (new_journal rule from.root to.root items) t u → OnOk result (HasWritten work (new_journal rule from.root to.root items) t u) → LeadsEach rule from to work Unbegun Begun t u result
new_journal_goes laws rule from to work items mapped t u result walked allowed sound is writes written g sides =
    goes_given (MayTell g journal) Written g Unbegun Begun t u result writes
    (λ a told at. record {
      apart = held_apart laws.shown laws.plans g Unbegun t a items told at walked_here laws.apart mapped (subst (λ n. IsMappedPlan n items mapped) sides.names walked.same);
      allows = names_allowed laws.shown laws.plans g Unbegun t a items told at walked_here laws.below
          (subst (λ n. AllowsEachMapped n (format_of g.target.vault) items) sides.names (subst (λ x. AllowsEachMapped rule (format_of x.vault) items) sides.target allowed));
      tells = subst (λ j. Tells g j) (sym (new_is g rule from to work items sides)) (tells_new laws.shown laws.plans g Unbegun t a items told at walked_here);
    })
    (λ may. journal_goes laws.begins laws.begun g journal t u result may is refl sound (subst (λ w. Writes w journal t u) sides.work writes)
    (subst (λ w. OnOk result (HasWritten w journal t u)) sides.work written))
  where
    journal : Journal
    journal = new_journal rule from.root to.root items

    Written : Told → Told → Type 0
    Written a b = Went (IsWriting work (journal_text journal) a.state) (λ s e. SparesOld (elsewhere work) a.state s e.call) a b

    walked_here : IsWalked t g.source items
    walked_here = subst (λ x. IsWalked t x items) sides.source walked.walked

-- a call that leads on each migration of which the new journal tells leads on each whose source was walked
pub told_goes : {T E : Type 0} → SeenAlone → TellsTree → (S : Told → Told → Type 0) (rule : NameMap) (from to : OpenedVault) (work : Path) (items : List Planned) (p q : Progress) (t u : Option Told) (result : Result T E)
    → FromTo S t u → IsWalked t from items → LeadsTold from to work (new_journal rule from.root to.root items) p q t u result → LeadsEach rule from to work p q t u result
told_goes shown plans S rule from to work items p q t u result told walked leads g sides =
    goes_given (Tells g (new_journal rule from.root to.root items)) S g p q t u result told
    (λ a is at. subst (λ j. Tells g j) (sym (new_is g rule from to work items sides)) (tells_new shown plans g p t a items is at (subst (λ x. IsWalked t x items) sides.source walked)))
    (λ tells. leads g sides tells)

pub new_is_journal : (rule : NameMap) (from to : Path) (items : List Planned) (j : Journal) → j ≡ new_journal rule from to items → IsParsed from → IsParsed to → length items ≤ item_limit → IsDigest j.plan
    → IsJournal (new_journal rule from to items)
new_is_journal rule from to items j is source target few digest = record { source = source; target = target; items = few; plan = subst (λ (k : Journal). IsDigest k.plan) is digest }

-- The work folder is made ready, and then the new journal is written.
pub written_goes : AreCited → (rule : NameMap) (from to : OpenedVault) (work : Path) (items mapped : List Planned) (t u w : Option Told) (j : Journal)
    (result : Result (Unit {0}) FolderFault) → j ≡ new_journal rule from.root to.root items → IsParsed from.root → IsParsed to.root → IsDigest j.plan → AllowsEachMapped rule (format_of to.vault) items → AreItemsToMove rule u from items mapped
    → AreSound w → ChangesAt work (IsWorkOrStage work) (IsLeftOver work) t u → Writes work j u w → OnOk result (HasWritten work j u w) → LeadsEach rule from to work Unbegun Begun t w result
written_goes laws rule from to work items mapped t u w j result is source target digest allowed walked sound changes writes written g sides =
    let ready : Result (Unit {0}) FolderFault = Ok tt in
    let one = enters_goes laws.enters g Unbegun t u ready (subst (λ x. ChangesAt x (IsWorkOrStage x) (IsLeftOver x) t u) sides.work changes) in
    goes_on g Unbegun Unbegun Begun t u w result one.0 one.1
    (new_journal_goes laws rule from to work items mapped u w result walked allowed sound (new_is_journal rule from.root to.root items j is source target walked.walked.size digest)
    (subst (λ k. Writes work k u w) is writes) (subst (λ k. OnOk result (HasWritten work k u w)) is written) g sides)
