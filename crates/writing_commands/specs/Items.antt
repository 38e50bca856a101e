-- Making an item at a plain path of a vault, behind a work folder that is made ready first: a crash at any moment leaves the old tree
-- or the new one.
use Rattle.std.specs.Prelude.{◌≡◌, ◌≢◌, ◌⊎◌, ◌≤◌, ℕ, Bool, List, [], ◌∷◌, ◌++◌, length, Result, Err, OnOk, IfErr, Option, IsTrue}
use Rattle.item_making.specs.Ending.{Ending, Whole}
use Rattle.content_writing.specs.Writing.{DrewNoZeros, DrewZeros}
use Rattle.item_making.specs.declared.fault.PutFault.{PutFault}
use Rattle.item_making.specs.declared.fault.PutFault.TheVariants as puts
use Rattle.folder_spec.specs.Path.{Path}
use Rattle.folder_spec.specs.State.{Table, State, IsTableOf}
use Rattle.folder_spec.specs.Edit.{IsPartOf}
use Rattle.folder_spec.specs.Event.{Told, FromTo}
use Rattle.folder_spec.specs.Moments.{Moments}
use Rattle.folder_spec.specs.Region.{IsAsBefore, Spares, apart_from, apart_from_both}
use Rattle.folder_spec.specs.Seen.{IfSeen, IsSeen, under}
use Rattle.folder_spec.specs.View.{View, Shows, ShowsAmong}
use Rattle.folder_spec.specs.Written.{HoldFronts}
use Rattle.plain_tree.specs.Names as plain
use Rattle.port_model.specs.Draws.{ByteStream, Draws}
use Rattle.vault_spec.specs.Making.{NewItem, draws}
use Rattle.vault_spec.specs.Vault.{Vault}
use Rattle.vault_spec.specs.Opened.{OpenedVault}
use Rattle.work_folder.specs.Entering.{IsFresh}
use Rattle.vault_write.specs.Calls.{How, IsOfMaking, IsUnpublished, making_by, AnswersBy, AnswersRoot}
use Rattle.item_making.specs.Making.{Placing, Making, format, path_of, StagesOrPlaces}
use Rattle.item_making.specs.Placing.{ShowsOne, EndsAs, making_at}
use Rattle.item_making.specs.Trees.{KeepsTree, GainsItem, opens_as}
use Rattle.writing_commands.specs.Faults.{answer_to_making}
use Rattle.open_for_changing.specs.Beginning.{ChangesOnlyWork, MakesBeside, OfSite}
use Rattle.open_for_reading.specs.Opening.{Opens}
use Rattle.open_for_reading.specs.Tests.{is_of_beginning}
use Rattle.open_for_reading.specs.World.{World}
use Rattle.command_answers.specs.declared.answer.Answer.{Answer}
use Rattle.command_words.specs.declared.commands.Change.{Change}

-- a region outside the work folder shows one view alone, with the vault in good order
pub record ShowsOneBeside (p : Placing) (region : Path → Bool) (s : State) (v : View) : Type 0 where
  pub one : ShowsOne p region s v
  pub beside : IsPartOf region (apart_from p.work)

-- The old tree or, of a content that comes whole, the new one: where such a region showed one view alone at first, each table now shows
-- there that view, or one that differs in the vault alone, which is in good order, with the old tree or with the item.
abbrev pub ShowsOldOrNewTreeBeside : Placing → Ending → State → State → Type 0
ShowsOldOrNewTreeBeside p ending s0 s =
    (region : Path → Bool) (v : View) → ShowsOneBeside p region s0 v
    → (t : Table) → IsTableOf s t
    → (w : View) × Shows region s t w × (KeepsTree (format p) p.vault.root v w ⊎ ((ending ≡ Whole) × GainsItem (format p) p.vault.root (path_of p) (opens_as p.item) v w))

-- The new tree: no directory change is pending, and the region shows one view alone again, with the item.
pub record ShowsNewTreeBeside (p : Placing) (s0 s : State) : Type 0 where
  pub settled : s.later ≡ []
  pub tree : (region : Path → Bool) (v : View) → ShowsOneBeside p region s0 v
      → (w : View) × ShowsAmong region s (w ∷ []) × GainsItem (format p) p.vault.root (path_of p) (opens_as p.item) v w

-- Since s0 the item is being made: all outside the work folder and the vault is as it was, the tree is the old one or the new one, and
-- each file that was made holds a front part of one of the item's files.
pub record IsMakingBeside (p : Placing) (ending : Ending) (m : Making) (s0 s : State) : Type 0 where
  pub others : IsAsBefore (apart_from_both p.work p.vault.root) s0 s
  pub trees : ShowsOldOrNewTreeBeside p ending s0 s
  pub fronts : HoldFronts m.files s0 s

-- Under a name, with these bytes drawn: no more than the item draws. In the vault the calls only bring what was staged to the places of
-- the item's edits, and where one of the tests refuses, the content or the random source, it isn't changed. Zeros are refused where they
-- were drawn, and only there.
pub record MakesNamed (how : How) (p : Placing) (ending : Ending) (drawn : List ℕ) (before after : Option Told) (result : Result (Unit {0}) PutFault) : Type 0 where
  pub enough : length drawn ≤ draws (format p) p.item
  pub moments : Moments (λ s0 s. IsMakingBeside p ending (making_at p (making_by how p drawn) s0) s0 s)
      (λ s0 s e. Spares (apart_from p.work) e.call ⊎ StagesOrPlaces p.work (making_at p (making_by how p drawn) s0) s e.call) before after
  pub done : OnOk result (FromTo (λ a b. ShowsNewTreeBeside p a.state b.state) before after)
  pub ends : (v w : View) → IsSeen before v → IsSeen after w → EndsAs p (under p.vault.root v) (under p.vault.root w) result
  pub answer : IfSeen before (λ v. AnswersBy how p drawn ending (under p.vault.root v) result)
  pub tested : IfErr result (λ fault. IsOfMaking fault ⊎ ChangesOnlyWork p.work before after)
  pub unpublished : IsUnpublished (apart_from p.work) before after result
  pub zeros : result ≡ Err puts.ZeroRandom → DrewZeros (format p).content drawn
  pub accepted : result ≢ Err puts.ZeroRandom → DrewNoZeros (format p).content drawn

-- At a plain path. The root isn't made, and nothing is changed but the work folder.
pub record MakesItem (how : How) (vault : OpenedVault) (work : Path) (path : plain.Path) (item : NewItem) (ending : Ending) (drawn : List ℕ) (told told' : Option Told) (result : Result (Unit {0}) PutFault) : Type 0 where
  pub named : (front : plain.Path) (name : List ℕ) → path ≡ front ++ name ∷ []
      → MakesNamed how (record { vault = vault; work = work; front = front; name = name; item = item }) ending drawn told told' result
  pub root : path ≡ [] → ChangesOnlyWork work told told' × (drawn ≡ []) × AnswersRoot how vault.root result

-- A command makes an item in this vault, and its answer is that. After Ok nothing but an empty stage stands in the work folder.
pub record MakesIn (how : How) (change : Change) (item : NewItem) (ending : Ending) (vault : Vault) (answer : Answer) (told told' : Option Told) (stream stream' : Option ByteStream) : Type 0 where
  pub result : Result (Unit {0}) PutFault
  pub is : answer ≡ answer_to_making result
  pub drawn : List ℕ
  pub were_drawn : Draws stream stream' drawn
  pub makes : MakesItem how (record { root = change.target.vault; vault = vault }) change.work change.target.path item ending drawn told told' result
  pub fresh : OnOk result (IfSeen told' (λ v. IsFresh v change.work))

-- the vault that is opened is changed so, with an answer of its own
pub record ChangesThere (is_own : Answer → Bool) (change : Change) (Makes : Vault → Type 0) (answer : Answer) (before : World) : Type 0 where
  pub vault : Vault
  pub opens : IfSeen before.told (λ v. Opens v change.target.vault change.target.pass vault)
  pub own : IsTrue (is_own answer)
  pub makes : Makes vault

-- A command changes a vault so, where all its tests pass.
abbrev pub ChangesVault : (Answer → Bool) → Change → (Vault → Type 0) → Answer → World → World → Type 0
ChangesVault is_own change Makes answer before after =
    MakesBeside is_of_beginning change.target.vault change.work (λ v. OfSite change v answer Makes) (ChangesThere is_own change Makes answer before) answer before after
