-- Placing one item of the source in the target.
use Rattle.std.proofs.Common.{◌≡◌, ◌≢◌, false, List, ◌++◌, Option, Some, None, Result, Ok, Err, OnOk, IfOk, refl, sym, ap, ◌∙◌, subst, inl, inr, ℕ, IsTrue, append_assoc}
use Rattle.folder_spec.specs.Path.{Path, below}
use Rattle.folder_spec.specs.State.{State, IsSound}
use Rattle.folder_spec.specs.Event.{Call, MakeDir, Create, Append, Sync, Settle, Rename, RemoveFile, RemoveDir, Told}
use Rattle.folder_spec.specs.Moments.{Went}
use Rattle.folder_spec.specs.Region.{IsAsBefore}
use Rattle.folder_spec.specs.Seen.{IfSeen, seen, under}
use Rattle.folder_spec.specs.View.{View}
use Rattle.folder_spec.proofs.Paths.{base_or_child, begins_or_not, below-apart}
use Rattle.folder_spec.proofs.Tellings.{from_to_more}
use Rattle.vault_spec.specs.Mapped.{IsMappedItem}
use Rattle.plain_tree.specs.Names as plain
use Rattle.plain_tree.specs.declared.NodeKind.TheVariants.{Dir, File}
use Rattle.plain_tree.specs.declared.name_map.NameMap.{NameMap}
use Rattle.port_model.specs.Draws.{ByteStream}
use Rattle.item_making.specs.Ending.{Ending, Whole}
use Rattle.content_writing.specs.Content.{Coming, still_coming}
use Rattle.vault_write.specs.VaultContents.{path_of, coming_of}
use Rattle.vault_write.specs.declared.vault_content.VaultContent.{VaultContent}
use Rattle.item_making.specs.declared.fault.PutFault.{PutFault}
use Rattle.item_making.specs.declared.fault.PutFault.TheVariants.{NoMemory, Taken}
use Rattle.migration_spec.proofs.Kept.{behind_none}
use Rattle.migration_spec.specs.Alone.{Begun, IsAlone, StaysGuarded}
use Rattle.migration_spec.specs.Guard.{Migration}
use Rattle.folder_spec.specs.Apart.{AreApart}
use Rattle.migration_spec.specs.Placed.{ItemAt, IsHeld, Places, placing_of}
use Rattle.vault_spec.specs.Opened.{OpenedVault}
use Rattle.vault_spec.specs.Find.{Refusal, enter}
use Rattle.vault_spec.specs.Format.{Directory}
use Rattle.vault_spec.specs.Making.{NewItem, NewDirectory, NewFile}
use Rattle.vault_spec.specs.Plan.{Planned}
use Rattle.vault_write.proofs.Runs.{went_with}
use Rattle.vault_write.specs.Calls.{New, MakesAt, MakesDirectory, MakesFile, MakesOne}
use Rattle.item_making.specs.Making.{Making, Placing, HasPlace, StagesOrPlaces, is_apart, is_inside, is_staged, format, making_in, new_item}
use Rattle.item_making.specs.Placing.{IsMaking, making_at}
use Rattle.item_making.specs.Trees.{opens_as}
use Rattle.work_folder.specs.Entering.{IsReady}
use Rattle.work_folder.specs.Entries.{stage_path}
use Rattle.migrate_core.proofs.Leadings.{goes_nowhere}
use Rattle.migrate_core.proofs.Movings.{moves_nowhere}
use Rattle.migrate_core.proofs.Planned.{DirectoriesOpen, FilesFit, FilesOpen, IsContentOf, SeenAlone, coming_told, directory_held, file_held}
use Rattle.migrate_core.specs.Leading.{Goes, Leads}
use Rattle.migrate_core.specs.Moving.{OnlyBrings, MovesBeside}
use Rattle.migrate_core.specs.Sides.{AreSides, IsItemOf}
use Rattle.migration_spec.proofs.Tellings.{AreSound}

-- ---- a new item is brought

-- a new item replaces nothing
replaces_nothing : (p : Placing) (drawn : List ℕ) (u : View) → (new_item p drawn u).replaces ≡ false
replaces_nothing p drawn u = by (enter (format p) u p.front)
  where
    by : (entered : Result Directory Refusal) → (making_in p u drawn entered).replaces ≡ false
    by (Err refusal) = refl
    by (Ok dir) = refl

-- what is staged is in the work folder
staged_below : (work q : Path) → IsTrue (is_staged work q) → (rest : Path) × (q ≡ work ++ rest)
staged_below work q is = elim (begins_or_not (stage_path work) q) [
  | inl there ↦ (_, there.1 ∙ append_assoc work _ there.0)
  | inr none ↦ absurd (cc (is, ap is_inside none))
]

-- and so apart from a root beside the work folder
module _ (root work : Path) (apart : AreApart root work) (q : Path) (staged : IsTrue (is_staged work q)) where
  pub below_root : below root q ≡ None
  below_root = let there = staged_below work q staged in ap (below root) there.1 ∙ below-apart root work there.0 apart.one apart.other

  root_below : below q root ≡ None
  root_below = let there = staged_below work q staged in subst (λ w. below w root ≡ None) (sym there.1) (behind_none work there.0 root apart.other)

places_bring : (root work : Path) → AreApart root work → (m : Making) → m.replaces ≡ false → (s : State) (call : Call) → StagesOrPlaces work m s call → OnlyBrings work root s call
places_bring root work apart m new s (MakeDir p) h = tt
places_bring root work apart m new s (Create p) h = below_root root work apart p h
places_bring root work apart m new s (Append p piece) h = tt
places_bring root work apart m new s (Sync p) h = tt
places_bring root work apart m new s Settle h = tt
places_bring root work apart m new s (Rename staged at) h = (below_root root work apart staged h.0, root_below root work apart staged h.0, inr (h.0, subst (λ r. HasPlace r s staged at) new h.2))
places_bring root work apart m new s (RemoveFile p) h = below_root root work apart p h
places_bring root work apart m new s (RemoveDir p) h = below_root root work apart p h

-- ---- by the path

abbrev pub Answer : Type 0
Answer = Result (Unit {0}) PutFault

pub no_answer : (T : Type 0) (taken : PutFault) (result : Answer) → ((result ≢ Err taken) → result ≡ Err NoMemory) → OnOk result T
no_answer T taken (Ok done) refused = absurd (ok_is_no_err (refused (λ e. cc e)))
  where
    ok_is_no_err : Ok done ≡ Err NoMemory → ⊥
    ok_is_no_err e = cc e
no_answer T taken (Err fault) refused = tt

module _ (to : OpenedVault) (work : Path) (path : plain.Path) (item : NewItem) (ending : Ending) (drawn : List ℕ) (t u : Option Told) (result : Answer) (made : MakesAt New to work path item ending drawn t u result) where
  pub made_moves : AreApart to.root work → MovesBeside (is_apart work to.root) work to.root t u
  made_moves apart = elim (base_or_child path) [
    | inl root ↦ moves_nowhere work (is_apart work to.root) to.root t u (made.root root).0
    | inr named ↦
        let p : Placing = record { vault = to; work = work; front = named.0; name = named.1; item = item } in
        let one : MakesOne New p ending drawn t u result = made.named named.0 named.1 named.2 in
        from_to_more
        (λ a b. Went (IsMaking p ending (making_at p (new_item p drawn) a.state) a.state) (λ s e. StagesOrPlaces work (making_at p (new_item p drawn) a.state) s e.call) a b)
        (λ a b. Went (IsAsBefore (is_apart work to.root) a.state) (λ s e. OnlyBrings work to.root s e.call) a b) t u
        (λ a b is went. went_with (IsMaking p ending (making_at p (new_item p drawn) a.state) a.state) (IsAsBefore (is_apart work to.root) a.state)
        (λ s e. StagesOrPlaces work (making_at p (new_item p drawn) a.state) s e.call) (λ s e. OnlyBrings work to.root s e.call) a b
        (λ s making. making.others)
        (λ s e making call. places_bring to.root work apart (making_at p (new_item p drawn) a.state) (replaces_nothing p drawn (under to.root (seen a.state))) s e.call call) went) one.makes.moments
  ]

  pub made_ready : OnOk result (IfSeen u (λ v. IsReady v work))
  made_ready = elim (base_or_child path) [
    | inl root ↦ no_answer (IfSeen u (λ v. IsReady v work)) (Taken to.root) result (made.root root).2
    | inr named ↦ (made.named named.0 named.1 named.2).makes.ready
  ]

-- ---- a migration is led on

abbrev pub PlacingGuards : Type 0
PlacingGuards = (g : Migration) (x : ItemAt) (a b : Told) (result : Answer) → IsAlone g Begun a.state → Places g x a b result → StaysGuarded g a b

abbrev pub PlacingLeads : Type 0
PlacingLeads = (g : Migration) (x : ItemAt) (a b : Told) → IsAlone g Begun a.state → Places g x a b (Ok tt) → IsAlone g Begun b.state

-- at a path at which the source held the item, where its content comes whole
pub made_goes : PlacingGuards → PlacingLeads → (g : Migration) (path : plain.Path) (item : NewItem) (ending : Ending) (drawn : List ℕ) (t u : Option Told) (result : Answer)
    → ((a : Told) → t ≡ Some a → IsAlone g Begun a.state → ending ≡ Whole → IsMappedItem g.names g.held path (opens_as item)) → AreSound u
    → MakesAt New g.target g.work path item ending drawn t u result → Goes g Begun Begun t u result
made_goes guards leads g path item ending drawn t u result held sound made = elim (base_or_child path) [
  | inl root ↦ goes_nowhere g Begun t u result (made.root root).0
  | inr named ↦
      let x : ItemAt = record { front = named.0; name = named.1; item = item } in
      let one : MakesOne New (placing_of g x) ending drawn t u result = made.named named.0 named.1 named.2 in
      named_goes x t u result one (λ a is at whole. subst (λ p. IsMappedItem g.names g.held p (opens_as item)) named.2 (held a is at whole)) sound
]
  where
    placed : (x : ItemAt) (a b : Told) (result : Answer) → MakesOne New (placing_of g x) ending drawn (Some a) (Some b) result → (ending ≡ Whole → IsHeld g x) → IsSound b.state → Places g x a b result
    placed x a b result one held sound = record {
      ending = ending;
      held = held;
      whole = whole result one;
      making = new_item (placing_of g x) drawn;
      makes = one.makes;
      sound = sound;
    }
      where
        whole : (result : Answer) → MakesOne New (placing_of g x) ending drawn (Some a) (Some b) result → OnOk result (ending ≡ Whole)
        whole (Ok done) one = (one.answer (seen a.state) refl).1
        whole (Err fault) one = tt

    named_goes : (x : ItemAt) (t u : Option Told) (result : Answer) → MakesOne New (placing_of g x) ending drawn t u result
        → ((a : Told) → t ≡ Some a → IsAlone g Begun a.state → ending ≡ Whole → IsHeld g x) → AreSound u → Goes g Begun Begun t u result
    named_goes x (Some a) (Some b) result one held sound = (λ at. guards g x a b result at (placed x a b result one (held a refl at) (sound b refl)), then_ result one)
      where
        then_ : (result : Answer) → MakesOne New (placing_of g x) ending drawn (Some a) (Some b) result → IfOk result (λ value. Leads g Begun Begun (Some a) (Some b))
        then_ (Ok tt) one = λ at. leads g x a b at (placed x a b (Ok tt) one (held a refl at) (sound b refl))
        then_ (Err fault) one = tt
    named_goes x None None result one held sound = (tt, none result)
      where
        none : (result : Answer) → IfOk result (λ value. Leads g Begun Begun None None)
        none (Ok value) = tt
        none (Err fault) = tt
    named_goes x None (Some b) result one held sound = absurd one.makes.moments
    named_goes x (Some a) None result one held sound = absurd one.makes.moments

-- ---- a directory of the source, and a file of it

module _ (guards : PlacingGuards) (leads : PlacingLeads) (shown : SeenAlone) (g : Migration) (rule : NameMap) (from to : OpenedVault) (work : Path) (sides : AreSides g rule from to work) (item : Planned) (t u : Option Told)
    (s s' : Option ByteStream) (result : Answer) (of : IsItemOf rule t from item) (sound : AreSound u) where
  item_here : IsItemOf g.names t g.source item
  item_here = subst (λ names. IsItemOf names t g.source item) sides.names (subst (λ x. IsItemOf rule t x item) sides.source of)

  made_here : (new : NewItem) (ending : Ending) (drawn : List ℕ) → MakesAt New to work item.path new ending drawn t u result → MakesAt New g.target g.work item.path new ending drawn t u result
  made_here new ending drawn made = subst (λ w. MakesAt New g.target w item.path new ending drawn t u result) sides.work
      (subst (λ x. MakesAt New x work item.path new ending drawn t u result) sides.target made)

  pub directory_goes : DirectoriesOpen → item.node ≡ Dir → MakesDirectory to work item.path s s' t u result → Goes g Begun Begun t u result
  directory_goes opens node made = made_goes guards leads g item.path NewDirectory Whole made.drawn t u result (λ a is at whole. directory_held shown opens g Begun t a item is at item_here node) sound
      (made_here NewDirectory Whole made.drawn made.makes)

  pub file_goes : FilesOpen → FilesFit → item.node ≡ File → (content : VaultContent) → IsContentOf from item content → (left : Option Coming)
      → MakesFile New to work item.path (still_coming (path_of content) t (coming_of content)) left s s' t u result → Goes g Begun Begun t u result
  file_goes opens fits node content gives left made =
      made_goes guards leads g item.path (NewFile made.writing.content) made.writing.ending made.writing.drawn t u result
      (λ a is at whole. file_held shown opens fits g Begun t a item is at item_here node made.writing.content made.writing.ending
      (coming_told g.source item content (subst (λ x. IsContentOf x item content) sides.source gives) t (record { bytes = made.writing.content; ending = made.writing.ending }) made.takes.told a is) whole)
      sound (made_here (NewFile made.writing.content) made.writing.ending made.writing.drawn made.makes)
