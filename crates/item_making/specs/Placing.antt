-- A call that makes one item so that a crash at any moment leaves the old tree or the new one.
use Rattle.std.specs.Prelude.{◌≡◌, ◌⊎◌, Bool, [], ◌∷◌, None, Option, Result, Ok, Err, OnOk, IsTrue}
use Rattle.folder_spec.specs.Path.{Path, below}
use Rattle.folder_spec.specs.State.{Table, State, IsTableOf}
use Rattle.folder_spec.specs.Event.{Told, FromTo}
use Rattle.folder_spec.specs.Moments.{Moments}
use Rattle.folder_spec.specs.Region.{IsAsBefore, at_or_below}
use Rattle.folder_spec.specs.Seen.{IfSeen, IsSeen, seen, under}
use Rattle.folder_spec.specs.View.{View, Shows, ShowsAmong}
use Rattle.folder_spec.specs.Written.{HoldFronts}
use Rattle.work_folder.specs.Entering.{IsReady}
use Rattle.vault_spec.specs.Adding.{OpensAs, OpensWith}
use Rattle.vault_spec.specs.Alike.{IsOrderly}
use Rattle.vault_spec.specs.Anywhere.{KeepsEntered}
use Rattle.vault_spec.specs.Findings.{IsClean}
use Rattle.vault_spec.specs.Opens.{opened}
use Rattle.item_making.specs.Making.{Placing, Making, format, path_of, is_staged, is_elsewhere, StagesOrPlaces}
use Rattle.item_making.specs.Trees.{ShowsVault, KeepsTree, GainsItem, StaysGood, opens_as}
use Rattle.item_making.specs.Ending.{Ending, Whole}
use Rattle.item_making.specs.declared.fault.PutFault.{PutFault}
use Rattle.item_making.specs.declared.fault.PutFault.TheVariants as puts

-- Where a folder tells its state, the stage is a directory without entries; and the work folder and the vault are apart.
pub record MayMake (told : Option Told) (work root : Path) : Type 0 where
  pub ready : IfSeen told (λ v. IsReady v work)
  pub apart : below work root ≡ None
  pub beside : below root work ≡ None

-- a region has all of the vault, and nothing that is staged
pub record HasVault (p : Placing) (region : Path → Bool) : Type 0 where
  pub vault : (q : Path) → IsTrue (at_or_below p.vault.root q) → IsTrue (region q)
  pub unstaged : (q : Path) → IsTrue (region q) → ¬ IsTrue (is_staged p.work q)

-- a region shows one view alone, with the vault in good order
pub record ShowsOne (p : Placing) (region : Path → Bool) (s : State) (v : View) : Type 0 where
  pub has : HasVault p region
  pub alone : ShowsAmong region s (v ∷ [])
  pub good : ShowsVault (format p) p.vault.root v

-- The old tree or, of a content that comes whole, the new one: where a region showed one view alone at first, each table now shows
-- there that view, or one that differs in the vault alone, which is in good order, with the old tree or with the item.
abbrev pub ShowsOldOrNewTree : Placing → Ending → State → State → Type 0
ShowsOldOrNewTree p ending s0 s =
    (region : Path → Bool) (v : View) → ShowsOne p region s0 v
    → (t : Table) → IsTableOf s t
    → (w : View) × Shows region s t w × (KeepsTree (format p) p.vault.root v w ⊎ ((ending ≡ Whole) × GainsItem (format p) p.vault.root (path_of p) (opens_as p.item) v w))

-- The new tree: no directory change is pending, and the region shows one view alone again, with the item.
pub record ShowsNewTree (p : Placing) (s0 s : State) : Type 0 where
  pub settled : s.later ≡ []
  pub tree : (region : Path → Bool) (v : View) → ShowsOne p region s0 v
      → (w : View) × ShowsAmong region s (w ∷ []) × GainsItem (format p) p.vault.root (path_of p) (opens_as p.item) v w

-- Since s0 the item is being made: all but what is staged and what stands in the vault is as it was, the tree is the old one or the
-- new one, and each file that was made holds a front part of one of the item's files.
pub record IsMaking (p : Placing) (ending : Ending) (m : Making) (s0 s : State) : Type 0 where
  pub others : IsAsBefore (is_elsewhere p) s0 s
  pub trees : ShowsOldOrNewTree p ending s0 s
  pub fronts : HoldFronts m.files s0 s

-- how the item is made, by what the vault showed at a state
abbrev pub making_at : Placing → (View → Making) → State → Making
making_at p making s0 = making (under p.vault.root (seen s0))

-- What opens once the item is made: in any vault the item at its path, and what was entered is; in an orderly one all else as before.
-- One in good order stays so.
abbrev pub OpensItem : Placing → View → View → Type 0
OpensItem p v w = (opened (format p) w (path_of p) ≡ opens_as p.item) × (IsOrderly (format p) v → OpensWith (format p) v w (path_of p) (opens_as p.item))
    × (IsClean (format p) v → IsOrderly (format p) v → StaysGood (format p) v w) × KeepsEntered (format p) v w

-- What opens as a reader now sees it, by the answer, in any vault: the item after Ok; all as before after a refusal of the vault, of the
-- content or of the random source; and one of the two where the folder failed or memory was refused.
abbrev pub EndsAs : Placing → View → View → Result (Unit {0}) PutFault → Type 0
EndsAs p v w (Ok _) = OpensItem p v w
EndsAs p v w (Err puts.Failed) = OpensAs (format p) v w ⊎ OpensItem p v w
EndsAs p v w (Err puts.NoMemory) = OpensAs (format p) v w ⊎ OpensItem p v w
EndsAs p v w (Err (puts.Find fault)) = OpensAs (format p) v w
EndsAs p v w (Err (puts.NotAllowed path)) = OpensAs (format p) v w
EndsAs p v w (Err (puts.Taken at)) = OpensAs (format p) v w
EndsAs p v w (Err (puts.Damaged at fault)) = OpensAs (format p) v w
EndsAs p v w (Err (puts.Limit limit)) = OpensAs (format p) v w
EndsAs p v w (Err puts.ZeroRandom) = OpensAs (format p) v w
EndsAs p v w (Err puts.Source) = OpensAs (format p) v w
EndsAs p v w (Err puts.Random) = OpensAs (format p) v w

-- A call makes the item of a content that ends so, from what a folder told before to what it tells afterwards. After Ok the stage is
-- ready again.
pub record Makes (p : Placing) (ending : Ending) (making : View → Making) (before after : Option Told) (result : Result (Unit {0}) PutFault) : Type 0 where
  pub moments : Moments (λ s0 s. IsMaking p ending (making_at p making s0) s0 s) (λ s0 s e. StagesOrPlaces p.work (making_at p making s0) s e.call) before after
  pub done : OnOk result (FromTo (λ a b. ShowsNewTree p a.state b.state) before after)
  pub ready : OnOk result (IfSeen after (λ v. IsReady v p.work))
  pub ends : (v w : View) → IsSeen before v → IsSeen after w → EndsAs p (under p.vault.root v) (under p.vault.root w) result
