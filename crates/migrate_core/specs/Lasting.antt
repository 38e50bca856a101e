-- How it lasts that a migration is done; and what stands in the work folder then.
use Rattle.std.specs.Prelude.{◌≡◌, ◌⊎◌, ℕ, ◌<◌, ◌≤◌, List, Option}
use Rattle.folder_spec.specs.Apart.{AreApart}
use Rattle.folder_spec.specs.Event.{Call, Told, FromTo}
use Rattle.folder_spec.specs.Moments.{Moments}
use Rattle.folder_spec.specs.Path.{Path}
use Rattle.folder_spec.specs.Region.{Spares, apart_from}
use Rattle.folder_spec.specs.Replace.{IsNewFile}
use Rattle.folder_spec.specs.Seen.{IfSeen, IsSeen, seen, under}
use Rattle.folder_spec.specs.State.{State, Table, IsTableOf, present}
use Rattle.folder_spec.specs.View.{NoEntry, View}
use Rattle.migration_spec.specs.Alone.{Finished, IsAlone}
use Rattle.migration_spec.specs.Guard.{AreOpenedBy, Guarded, Migration}
use Rattle.migration_sides.specs.Sides.{opened_in}
use Rattle.move_journal.specs.Journal.{IsJournal, journal_text}
use Rattle.move_journal.specs.Reading.{StandsIn}
use Rattle.move_journal.specs.declared.journal.Journal.{Journal}
use Rattle.move_journal.specs.declared.journal.Phase.TheVariants.{Building}
use Rattle.plain_tree.specs.declared.name_map.NameMap.{NameMap}
use Rattle.vault_spec.specs.Opened.{OpenedVault}
use Rattle.vault_spec.specs.Plan.{Planned}
use Rattle.vault_spec.specs.Vault.{IsVault, Vault}
use Rattle.work_folder.specs.Entering.{IsReady}
use Rattle.work_folder.specs.Entries.{journal_path, new_journal_path}
use Rattle.migrate_core.specs.Leading.{IsSettled}
use Rattle.migrate_core.specs.Moved.{HaveMappedTree, done_of}
use Rattle.migrate_core.specs.Sides.{new_journal}

-- A migration that was guarded at first is finished: each name table shows both vaults with the same tree, the names mapped, and the
-- journal that says so, and the files of all three are clean.
abbrev pub Finishes : Migration → Option Told → Option Told → Type 0
Finishes g = FromTo (λ a b. Guarded g a.state → IsAlone g Finished b.state)

-- each migration through this work folder, of whose vaults these passphrases open those that are there
abbrev pub EndsEach : Path → List ℕ → List ℕ → Option Told → Option Told → Type 0
EndsEach work from_pass to_pass told told' = (g : Migration) → g.work ≡ work → IfSeen told (λ v. AreOpenedBy g from_pass to_pass v) → Finishes g told told'

-- `stage` is a directory without entries, and `journal.new` is gone or as it was
pub record ClearsWork (work : Path) (v w : View) : Type 0 where
  pub ready : IsReady w work
  pub new_journal : (w (new_journal_path work) ≡ NoEntry) ⊎ (w (new_journal_path work) ≡ v (new_journal_path work))

abbrev pub Clears : Path → Option Told → Option Told → Type 0
Clears work told told' = (v w : View) → IsSeen told v → IsSeen told' w → ClearsWork work v w

-- ---- the journal

-- Since s0 each name table has at `journal` what a table of s0 had there, or, where that isn't said yet, a new file that says that all is
-- done, and this is so then of what is seen. The files of then are as they were.
pub record KeepsText (Is : View → Type 0) (work : Path) (journal : Journal) (s0 s : State) : Type 0 where
  pub tables : (t : Table) → IsTableOf s t
      → ((u : Table) × IsTableOf s0 u × (t (journal_path work) ≡ u (journal_path work))) ⊎ ((journal.phase ≡ Building) × IsNewFile (journal_text (done_of journal)) s0 s (t (journal_path work)) × Is (seen s))
  pub nodes : (n : ℕ) → n < s0.made → s.nodes n ≡ s0.nodes n
  pub made : s0.made ≤ s.made

-- What says that all is done comes once, and last: where a file made since s0 that says so stands at `journal`, a call spares all paths
-- but `journal.new`.
abbrev pub ComesLast : Path → Journal → State → State → Call → Type 0
ComesLast work journal s0 s call = IsNewFile (journal_text (done_of journal)) s0 s (present s (journal_path work)) → Spares (apart_from (new_journal_path work)) call

-- at each moment, and each call
abbrev pub KeepsTexts : (View → Type 0) → Path → Journal → Option Told → Option Told → Type 0
KeepsTexts Is work journal = Moments (KeepsText Is work journal) (λ s0 s e. ComesLast work journal s0 s e.call)

-- A journal that stood stands at each moment, or what says that all is done stands in its place, and only while this is so; and so a read
-- finds it in the end.
pub record KeepsJournal (Is : View → Type 0) (work : Path) (journal : Journal) (told told' : Option Told) : Type 0 where
  pub moments : KeepsTexts Is work journal told told'
  pub stands : IfSeen told' (λ v. StandsIn work journal v ⊎ StandsIn work (done_of journal) v)

-- each journal that stood, while this is so by what was seen at first
abbrev pub KeepsEachJournal : (View → Journal → View → Type 0) → Path → Option Told → Option Told → Type 0
KeepsEachJournal Is work told told' = (v : View) (journal : Journal) → IsSeen told v → IsJournal journal → StandsIn work journal v → KeepsJournal (Is v journal) work journal told told'

-- Of the vaults that the journal tells and these passphrases opened in the first view, the target has the mapped tree of the source.
pub record HaveToldTrees (from_pass to_pass : List ℕ) (v : View) (journal : Journal) (w : View) : Type 0 where
  pub source : Vault
  pub target : Vault
  pub opens_source : IsVault (under journal.source v) from_pass source
  pub opens_target : IsVault (under journal.target v) to_pass target
  pub trees : HaveMappedTree journal.names (opened_in journal.source source) (opened_in journal.target target) w

-- Since s0 each name table has at `journal` what a table of s0 had there, or a new file with this journal's text, or one that says that all
-- is done, and this is so then of what is seen. The files of then are as they were.
pub record BringsText (Is : View → Type 0) (work : Path) (journal : Journal) (s0 s : State) : Type 0 where
  pub tables : (t : Table) → IsTableOf s t
      → ((u : Table) × IsTableOf s0 u × (t (journal_path work) ≡ u (journal_path work)))
      ⊎ (IsNewFile (journal_text journal) s0 s (t (journal_path work)) ⊎ (IsNewFile (journal_text (done_of journal)) s0 s (t (journal_path work)) × Is (seen s)))
  pub nodes : (n : ℕ) → n < s0.made → s.nodes n ≡ s0.nodes n
  pub made : s0.made ≤ s.made

-- at each moment, and what says that all is done comes last
abbrev pub BringsTexts : (View → Type 0) → Path → Journal → Option Told → Option Told → Type 0
BringsTexts Is work journal = Moments (BringsText Is work journal) (λ s0 s e. ComesLast work journal s0 s e.call)

-- The journal of a migration by this rule between these roots is brought, and what says that all is done comes only while the target has the
-- mapped tree of the source, of the vaults that these passphrases opened in the first view.
pub record BringsJournal (names : NameMap) (from to work : Path) (from_pass to_pass : List ℕ) (told told' : Option Told) (v : View) : Type 0 where
  pub items : List Planned
  pub texts : BringsTexts (HaveToldTrees from_pass to_pass v (new_journal names from to items)) work (new_journal names from to items) told told'

-- ---- behind a settle (private contracts only)

abbrev pub FinishesSettled : Migration → Option Told → Option Told → Type 0
FinishesSettled g = FromTo (λ a b. IsSettled g a.state → IsAlone g Finished b.state)

abbrev pub EndsEachSettled : Path → List ℕ → List ℕ → Option Told → Option Told → Type 0
EndsEachSettled work from_pass to_pass told told' = (g : Migration) → g.work ≡ work → IfSeen told (λ v. AreOpenedBy g from_pass to_pass v) → FinishesSettled g told told'

-- where the stage was ready
abbrev pub ClearsReady : Path → Option Told → Option Told → Type 0
ClearsReady work told told' = (v w : View) → IsSeen told v → IsSeen told' w → IsReady v work → ClearsWork work v w

-- the same between two opened vaults
abbrev pub BringsBetween : NameMap → OpenedVault → OpenedVault → Path → Option Told → Option Told → Type 0
BringsBetween names from to work told told' = (items : List Planned) × BringsTexts (HaveMappedTree names from to) work (new_journal names from.root to.root items) told told'

abbrev pub KeepsEachText : (View → Journal → View → Type 0) → Path → Option Told → Option Told → Type 0
KeepsEachText Is work told told' = (v : View) (journal : Journal) → IsSeen told v → IsJournal journal → StandsIn work journal v → KeepsTexts (Is v journal) work journal told told'

-- apart from the work folder all is as was seen at first
abbrev pub StaysBeside : Path → Option Told → View → Type 0
StaysBeside work told w = (v : View) (root : Path) → IsSeen told v → AreApart root work → under root w ≡ under root v
