-- What comparing two vaults by their plans tells of their trees.
use Rattle.std.specs.Prelude.{◌≡◌, ◌⊎◌, List, Result, Ok, Err}
use Rattle.chunk_files.specs.Reading.{Wanting}
use Rattle.folder_spec.specs.Path.{Path}
use Rattle.folder_spec.specs.Seen.{under}
use Rattle.folder_spec.specs.View.{View}
use Rattle.plain_tree.specs.Names as plain
use Rattle.plain_tree.specs.declared.name_map.NameMap.{NameMap}
use Rattle.tree_match.specs.Comparing.{Answers, Outcome, Is, Stops}
use Rattle.tree_match.specs.Mapping.{IsMappedPlan}
use Rattle.tree_match.specs.Matching.{matched}
use Rattle.tree_match.specs.declared.answer.How.{How}
use Rattle.tree_match.specs.declared.answer.Match.{Match}
use Rattle.tree_match.specs.declared.answer.Match.TheVariants.{Same, Contained, Differs}
use Rattle.tree_match.specs.declared.answer.MatchFault.{MatchFault}
use Rattle.vault_spec.specs.Opened.{OpenedVault}
use Rattle.vault_spec.specs.Opens.{Tree, tree}
use Rattle.vault_spec.specs.Plan.{Planned}
use Rattle.vault_spec.specs.Vault.{Vault, format_of}
use Rattle.vault_walk.specs.Surveyed.{IsPlanOf}

-- where a vault stands, and its plan
pub record PlannedVault : Type 0 where
  pub vault : Vault
  pub root : Path
  pub items : List Planned

-- the same vault by other items
abbrev pub with_items : PlannedVault → List Planned → PlannedVault
with_items a items = record { vault = a.vault; root = a.root; items = items }

-- an opened vault by these items
abbrev pub side_of : OpenedVault → List Planned → PlannedVault
side_of a items = record { vault = a.vault; root = a.root; items = items }

-- what opens in the vault
abbrev pub tree_of : View → PlannedVault → Tree
tree_of v a = tree (format_of a.vault) (under a.root v)

-- the plan is the one that a walk of the vault answers
abbrev pub IsWalkOf : View → PlannedVault → Type 0
IsWalkOf v a = IsPlanOf a.root (format_of a.vault) (under a.root v) a.items

-- it is that one at the mapped paths
pub record IsMappedWalkOf (names : NameMap) (v : View) (a : PlannedVault) : Type 0 where
  pub own : List Planned
  pub walk : IsWalkOf v (with_items a own)
  pub mapped : IsMappedPlan names own a.items

abbrev pub match_of : View → PlannedVault → PlannedVault → Outcome Match
match_of v a b = matched (format_of a.vault).content a.items (format_of b.vault).content b.items v

-- what comparing the items of an opened vault with those of another answers
abbrev pub Compares : OpenedVault → List Planned → OpenedVault → List Planned → View → Result Match MatchFault → Type 0
Compares a items b others v = Answers (match_of v (side_of a items) (side_of b others))

-- the first vault's items are in the second, which may have further ones, or the one that differs is told by this fault
abbrev pub HoldsOr : {G : Type 0} → (plain.Path → How → G) → Match → Result (Unit {0}) G → Type 0
HoldsOr differs Same answer = answer ≡ Ok tt
HoldsOr differs (Contained path) answer = answer ≡ Ok tt
HoldsOr differs (Differs path how) answer = answer ≡ Err (differs path how)

-- all items of the first vault are in the second, and there may be further ones
pub data HoldsAllBy : Outcome Match → Type 0 where
  AsSame : HoldsAllBy (Is Same)
  AndFurther : (path : plain.Path) → HoldsAllBy (Is (Contained path))

-- so it is; or the content of a file passes the limit before its end
abbrev pub HoldsAllOrTooLong : Outcome Match → Type 0
HoldsAllOrTooLong outcome = HoldsAllBy outcome ⊎ ((at : Path) × (outcome ≡ Stops at Wanting))

-- both hold the same; or the content of a file passes the limit before its end
pub data IsSameOrTooLong : Outcome Match → Type 0 where
  AreSame : IsSameOrTooLong (Is Same)
  IsTooLong : (at : Path) → IsSameOrTooLong (Stops at Wanting)
