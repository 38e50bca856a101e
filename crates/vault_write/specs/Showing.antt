-- Why publishing an item's edits shows the old tree or the new one: what is to be known of the edits, and the law.
use Rattle.std.specs.Prelude.{List, [], ◌∷◌, ◌++◌}
use Rattle.folder_spec.specs.State.{State}
use Rattle.folder_spec.specs.Edit.{Edit, edits_under, view_after, PublishesIn, HasSettledIn}
use Rattle.folder_spec.specs.Seen.{seen, under}
use Rattle.folder_spec.specs.View.{View}
use Rattle.plain_tree.specs.Names as plain
use Rattle.vault_spec.specs.Adding.{ComesAlone, StaysClean}
use Rattle.vault_spec.specs.Staying.{StaysVault}
use Rattle.vault_spec.specs.Format.{Format}
use Rattle.vault_spec.specs.Opens.{Opened}
use Rattle.vault_spec.specs.Tidy.{StaysTidy}
use Rattle.item_making.specs.Ending.{Ending, Whole}
use Rattle.item_making.specs.Making.{Placing, format, path_of, is_unstaged}
use Rattle.item_making.specs.Placing.{ShowsOldOrNewTree, ShowsNewTree}
use Rattle.item_making.specs.Trees.{ShowsVault, opens_as}

-- by these edits an item comes alone to a vault, which stays clean and orderly, and nothing is left over after them
pub record MakeItem (f : Format) (u : View) (path : plain.Path) (item : Opened) (edits : List Edit) : Type 0 where
  pub alone : ComesAlone f u u edits path item
  pub clean : StaysClean f u edits
  pub tidy : StaysTidy f u (view_after u edits)
  pub vault : StaysVault f u u edits

-- something comes so, where the vault as it was seen is in good order
abbrev pub MakesAlone : Placing → Opened → List Edit → State → Type 0
MakesAlone p item edits s0 = ShowsVault (format p) p.vault.root (seen s0) → MakeItem (format p) (under p.vault.root (seen s0)) (path_of p) item edits

-- the item does
abbrev pub MakeItemAt : Placing → List Edit → State → Type 0
MakeItemAt p edits s0 = MakesAlone p (opens_as p.item) edits s0

abbrev pub EditsShowTrees : Type 0
EditsShowTrees = (p : Placing) (edits : List Edit) (s0 s : State) → MakeItemAt p edits s0
    → PublishesIn (is_unstaged p.work) (edits_under p.vault.root edits) s0 s → ShowsOldOrNewTree p Whole s0 s

-- while all but the last are published, the old tree alone, however the content ends and whatever the last brings
abbrev pub EditsBeforeTheLastKeepTrees : Type 0
EditsBeforeTheLastKeepTrees = (p : Placing) (ending : Ending) (item : Opened) (edits : List Edit) (last : Edit) (s0 s : State) → MakesAlone p item (edits ++ last ∷ []) s0
    → PublishesIn (is_unstaged p.work) (edits_under p.vault.root edits) s0 s → ShowsOldOrNewTree p ending s0 s

abbrev pub SettledEditsShowTrees : Type 0
SettledEditsShowTrees = (p : Placing) (edits : List Edit) (s0 s : State) → MakeItemAt p edits s0
    → HasSettledIn (is_unstaged p.work) (edits_under p.vault.root edits) s0 s → ShowsNewTree p s0 s
