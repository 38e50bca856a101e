-- Reading the content files of a vault for their faults (private contracts only).
use Rattle.std.specs.Prelude.{◌≡◌, ◌↔◌, ◌<◌, ◌++◌, ◌∷◌, [], ℕ, List, get_or, length, take, Option, Some, None, Result, Ok, Err, AllPairs, Contains}
use Rattle.std.specs.List.{filter_map}
use Rattle.std.specs.declared.cmp.Ordering.TheVariants.{Less}
use Rattle.chunk_files.specs.declared.fault.ChunkFault.{ChunkFault}
use Rattle.chunk_files.specs.Reading.{Ending, Whole, Wanting, Faulty}
use Rattle.folder_model.specs.Order.{path_cmp}
use Rattle.folder_spec.specs.Path.{Path}
use Rattle.folder_spec.specs.Event.{Told}
use Rattle.folder_spec.specs.Seen.{IfSeen}
use Rattle.folder_spec.specs.View.{View, FileOf}
use Rattle.plain_tree.specs.declared.NodeKind.{NodeKind}
use Rattle.plain_tree.specs.declared.NodeKind.TheVariants as node
use Rattle.vault_read.specs.Contents.{Reader, limited_reading, still}
use Rattle.vault_spec.specs.Findings.{finding_of, number_of}
use Rattle.vault_spec.specs.Format.{Format}
use Rattle.vault_spec.specs.Plan.{Planned}
use Rattle.vault_walk.specs.declared.fault.Finding.{Finding}
use Rattle.vault_faults.specs.declared.fault.CatFault.{CatFault}
use Rattle.vault_faults.specs.declared.fault.CatFault.TheVariants as cat
use Rattle.vault_faults.specs.declared.fault.Limit.TheVariants as limit
use Rattle.vault_check.specs.declared.fault.CheckFault.{CheckFault}
use Rattle.vault_check.specs.declared.fault.CheckFault.TheVariants as check

-- how reading a content ends that has this fault, or none
abbrev pub ending_of : Option ChunkFault → Ending
ending_of None = Whole
ending_of (Some fault) = Faulty fault

-- the content file there ends so
abbrev pub EndsAs : Format → View → Path → Ending → Type 0
EndsAs f v at ending = (bytes : List ℕ) × (v at ≡ FileOf bytes) × ((limited_reading f.content bytes).ending ≡ ending)

-- what is still to be read of a file ends so
abbrev pub StillEnds : View → Reader → Ending → Type 0
StillEnds v reader ending = (bytes : List ℕ) × (v reader.at ≡ FileOf bytes) × ((still reader.decoding bytes).ending ≡ ending)

-- the fault of a content of which reading ends by this, or why it isn't known
abbrev pub ended_by : CatFault → Result (Option ChunkFault) CheckFault
ended_by (cat.Damaged path found) = Ok (Some found)
ended_by (cat.Limit limit) = Err (check.Limit limit)
ended_by cat.Failed = Err check.Failed
ended_by cat.NoMemory = Err check.NoMemory
ended_by (cat.Find fault) = Err check.NoMemory
ended_by cat.Sink = Err check.NoMemory

-- the place of an item's content, if it is a file
abbrev pub content_place : NodeKind → Path → Option Path
content_place node.File at = Some at
content_place node.Dir at = None

abbrev pub content_of : Planned → Option Path
content_of item = content_place item.node item.at

-- the contents of the files among these items, in order of their paths, each once
pub record AreContentsOf (items : List Planned) (contents : List Path) : Type 0 where
  pub ordered : AllPairs (λ (x y : Path). path_cmp x y ≡ Less) contents
  pub each : (at : Path) → Contains contents at ↔ Contains (filter_map content_of items) at

-- the finding of a content with this fault, if it has one
abbrev pub told_damage : Path → Option ChunkFault → List Finding
told_damage at None = []
told_damage at (Some fault) = record { at = at; number = number_of (finding_of fault); fault = Some fault } ∷ []

-- these findings are of the contents that are damaged, in their order, and each other content was read to its end
pub data TellsDamage (f : Format) (v : View) : List Path → List Finding → Type 0 where
  NoContent : TellsDamage f v [] []
  Content : (at : Path) (contents : List Path) (fault : Option ChunkFault) (found : List Finding) → TellsDamage f v contents found → EndsAs f v at (ending_of fault)
      → TellsDamage f v (contents ++ at ∷ []) (found ++ told_damage at fault)

-- of these contents the one there is the first of which reading ends at the limit
pub record EndsFirst (f : Format) (v : View) (contents : List Path) (at : Path) : Type 0 where
  pub place : ℕ
  pub inside : place < length contents
  pub is : at ≡ get_or contents place at
  pub ends : EndsAs f v at Wanting
  pub before : (other : Path) → Contains (take place contents) other → ¬ EndsAs f v other Wanting

abbrev pub HasRead : Option Told → Format → List Path → List Finding → Type 0
HasRead told f contents found = IfSeen told (λ v. TellsDamage f v contents found)

-- a fault that reading contents may have, and a limit of the length of one of them
abbrev pub IsContentFault : CheckFault → Type 0
IsContentFault (check.Limit limit.Items) = ⊥
IsContentFault (check.Limit limit.Depth) = ⊥
IsContentFault (check.Limit (limit.Length at)) = Unit {0}
IsContentFault (check.Limit limit.Input) = ⊥
IsContentFault check.Failed = Unit {0}
IsContentFault check.NoMemory = Unit {0}
