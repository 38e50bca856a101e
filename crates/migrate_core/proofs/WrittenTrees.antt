-- What a call writes, by its answer.
use Rattle.work_folder.specs.Entering.{Empties}
use Rattle.std.proofs.Common.{◌≡◌, IfErr, inl, inr, ℕ, List, [], ◌∷◌, Contains, Option, IsErrAnd, Result, Ok, Err, subst, subst₂, arith, ◌⊎◌}
use Rattle.folder_spec.specs.Event.{Told}
use Rattle.folder_spec.specs.Seen.{IfSeen, IsSeen}
use Rattle.folder_spec.specs.View.{View}
use Rattle.folder_spec.specs.Path.{Path}
use Rattle.folder_spec.specs.Seen.{under}
use Rattle.migrate_core.specs.Faults.{IsOfTest}
use Rattle.migrate_core.specs.declared.fault.MoveFault.{MoveFault}
use Rattle.move_journal.specs.Journal.{IsJournal, journal_text}
use Rattle.move_journal.specs.declared.journal.Journal.{Journal}
use Rattle.plain_tree.specs.declared.name_map.NameMap.{NameMap}
use Rattle.port_model.specs.Draws.{ByteStream, Draws}
use Rattle.vault_spec.specs.Opened.{OpenedVault}
use Rattle.vault_spec.specs.Plan.{Planned}
use Rattle.vault_spec.specs.Vault.{IsVault}
use Rattle.migration_sides.proofs.Chains.{refused_as}
use Rattle.migration_sides.proofs.Unchanged.{unchanged, unchanged_on}
use Rattle.migration_sides.specs.Sides.{opened_in}
use Rattle.migration_sides.specs.Unchanged.{ChangesNothing}
use Rattle.migrate_core.specs.Moved.{done_of}
use Rattle.migrate_core.specs.Causes.{StopsLater}
use Rattle.vault_walk.specs.Survey.{IsOrdered}
use Rattle.move_journal.specs.declared.journal.Phase.TheVariants.{Done}
use Rattle.move_journal.specs.Reading.{StandsIn}
use Rattle.migrate_core.specs.Sides.{AreTold, new_journal}
use Rattle.migrate_core.specs.Written.{IsRefusal, BringsOnlyTo, WritesBeside, MayWriteBy, MayWriteTold, MayWriteTreeBy, WritesAll, WritesBy, WritesLacked, WritesNothing, WritesTree, done_texts, lacked}
use Rattle.migrate_core.proofs.Writings.{brings_none, by_after, first_of_all, in_second, only_on, stop_is_test}

-- ---- by the answer

pub by_all : {T : Type 0} (result : Result T MoveFault) (Is : View → Type 0) (from to : OpenedVault) (items : List Planned) (texts : List (List ℕ)) (s s' : Option ByteStream) (t u t' : Option Told) → IfSeen t (λ v. (w : View) × IsSeen u w) → IfErr result (StopsLater Is u)
    → WritesAll from to items texts s s' t t' → WritesBy result from to items texts s s' t t'
by_all (Ok value) Is from to items texts s s' t u t' after stops all = all
by_all (Err fault) Is from to items texts s s' t u t' after stops all = first_of_all from to items texts s s' t t' fault (λ v seen_v. let w = after v seen_v in stop_is_test fault (Is w.0) (stops w.0 w.1)) all

-- a test refuses, and nothing is drawn or changed
pub refused_written : {T : Type 0} (result : Result T MoveFault) (why : MoveFault) → IsErrAnd result (λ fault. fault ≡ why) → IsOfTest why → (s : Option ByteStream) (t u : Option Told) → Draws s s [] → ChangesNothing t u
    → WritesNothing result s s t u
refused_written result why is tested s t u undrawn still = record { refused = refused_as (λ answer. IsRefusal answer) result is tested; undrawn = undrawn; still = still }

pub nothing_written : {T : Type 0} (result : Result T MoveFault) (why : MoveFault) → IsErrAnd result (λ fault. fault ≡ why) → IsOfTest why → (s : Option ByteStream) (t u : Option Told) → Draws s s [] → u ≡ t → WritesNothing result s s t u
nothing_written result why is tested s t u undrawn stays = refused_written result why is tested s t u undrawn (unchanged t u stays)

-- the vaults are those of two roots and their passphrases
pub tree_of : {T : Type 0} (texts : List Planned → List (List ℕ)) (result : Result T MoveFault) (names : NameMap) (from to work : Path) (pass pass' : List ℕ) (source target : OpenedVault) (s s' : Option ByteStream) (t t' : Option Told) → source.root ≡ from → target.root ≡ to
    → IfSeen t (λ v. IsVault (under from v) pass source.vault) → IfSeen t (λ v. IsVault (under to v) pass' target.vault)
    → MayWriteBy texts result names source target work s s' t t' → MayWriteTreeBy texts result names from to work pass pass' s s' t t'
tree_of texts result names from to work pass pass' source target s s' t t' at_from at_to opens opens' may = elim may [
  | inl nothing ↦ inl nothing
  | inr writes ↦ inr (record {
    source = source.vault;
    target = target.vault;
    opens_source = opens;
    opens_target = opens';
    writes = subst₂ (λ p q. WritesLacked texts result names (opened_in p source.vault) (opened_in q target.vault) work s s' t t') at_from at_to writes;
  })
]

-- behind a call by which nothing is changed and what is seen stays so
module _ (s s' : Option ByteStream) (t u w : Option Told) (known : IfSeen t (λ v. IsSeen u v)) (still : ChangesNothing t u) (before : WritesBeside [] (λ file. ⊥) t u) where
  nothing_after : {T : Type 0} (result : Result T MoveFault) → WritesNothing result s s' u w → WritesNothing result s s' t w
  nothing_after result h = record { refused = h.refused; undrawn = h.undrawn; still = unchanged_on t u w still h.still }

  unready_after : (root work : Path) → WritesBeside root (λ file. ⊥) u w ⊎ IfSeen u (λ v. Empties v work (Ok tt)) → WritesBeside root (λ file. ⊥) t w ⊎ IfSeen t (λ v. Empties v work (Ok tt))
  unready_after root work (inl beside) = inl (only_on (BringsOnlyTo [] (λ at. ⊥)) (BringsOnlyTo root (λ at. ⊥)) (BringsOnlyTo root (λ at. ⊥)) (λ file. ⊥) (λ file. ⊥) (λ file. ⊥) (brings_none root (λ at. ⊥)) (λ call is. is) (λ file none. none) (λ file none. none) t u w before beside)
  unready_after root work (inr empties) = inr (λ v is. empties v (known v is))

  lacked_after : {T : Type 0} (texts : List Planned → List (List ℕ)) (result : Result T MoveFault) (names : NameMap) (from to : OpenedVault) (work : Path) → WritesLacked texts result names from to work s s' u w → WritesLacked texts result names from to work s s' t w
  lacked_after texts result names from to work h = record {
    items = h.items;
    mapped = h.mapped;
    there = h.there;
    items_are = λ v is. h.items_are v (known v is);
    mapped_are = h.mapped_are;
    there_are = λ v is. h.there_are v (known v is);
    unready = unready_after to.root work h.unready;
    writes = by_after from to (lacked h.there h.mapped) (texts h.items) s s' t u w known before result h.writes;
  }

  tree_after : {T : Type 0} (texts : List Planned → List (List ℕ)) (result : Result T MoveFault) (names : NameMap) (from to work : Path) (pass pass' : List ℕ) → WritesTree texts result names from to work pass pass' s s' u w → WritesTree texts result names from to work pass pass' s s' t w
  tree_after texts result names from to work pass pass' h = record {
    source = h.source;
    target = h.target;
    opens_source = λ v is. h.opens_source v (known v is);
    opens_target = λ v is. h.opens_target v (known v is);
    writes = lacked_after texts result names (opened_in from h.source) (opened_in to h.target) work h.writes;
  }

  pub may_write_after : {T : Type 0} (texts : List Planned → List (List ℕ)) (result : Result T MoveFault) (names : NameMap) (from to work : Path) (pass pass' : List ℕ) → MayWriteTreeBy texts result names from to work pass pass' s s' u w → MayWriteTreeBy texts result names from to work pass pass' s s' t w
  may_write_after texts result names from to work pass pass' may = elim may [
    | inl nothing ↦ inl (nothing_after result nothing)
    | inr writes ↦ inr (tree_after texts result names from to work pass pass' writes)
  ]

  pub told_after : {T : Type 0} (result : Result T MoveFault) (work : Path) (pass pass' : List ℕ) (v : View) → MayWriteTold result work pass pass' s s' u w v → MayWriteTold result work pass pass' s s' t w v
  told_after result work pass pass' v may = elim may [
    | inl nothing ↦ inl (nothing_after result nothing)
    | inr told ↦ inr (record { journal = told.journal; is = told.is; stands = told.stands; writes = tree_after (λ items. done_texts told.journal) result told.journal.names told.journal.source told.journal.target work pass pass' told.writes })
  ]

pub told_of : {T : Type 0} (result : Result T MoveFault) (work : Path) (pass pass' : List ℕ) (s s' : Option ByteStream) (t t' : Option Told) (v : View) (j : Journal) → IsJournal j → StandsIn work j v
    → MayWriteTreeBy (λ items. done_texts j) result j.names j.source j.target work pass pass' s s' t t' → MayWriteTold result work pass pass' s s' t t' v
told_of result work pass pass' s s' t t' v j is stands may = elim may [
  | inl nothing ↦ inl nothing
  | inr writes ↦ inr (record { journal = j; is = is; stands = stands; writes = writes })
]

-- ---- what the calls need

pub none_ordered : IsOrdered []
none_ordered i j d before few = absurd (omega (arith, few))
