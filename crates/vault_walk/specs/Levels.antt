-- How a walk goes on: what it gathers of one directory, and what it has gathered between two levels and within one.
use Rattle.std.specs.Prelude.{◌≡◌, ◌↔◌, ◌⊎◌, ◌+◌, ◌<◌, ◌≤◌, ◌++◌, ℕ, suc, List, [], ◌∷◌, map, length, Some, Result, Ok, Err, IsTrue, Contains}
use Rattle.std.specs.BTreeSet.{BTreeSet, contains}
use Rattle.std.specs.List.{flat_map}
use Rattle.folder_spec.specs.Path.{Path}
use Rattle.folder_spec.specs.Seen.{under}
use Rattle.folder_spec.specs.View.{View}
use Rattle.plain_tree.specs.Names as plain
use Rattle.plain_tree.specs.declared.NodeKind.{NodeKind}
use Rattle.plain_tree.specs.declared.NodeKind.TheVariants as node
use Rattle.port_model.specs.Counts.{CountRose}
use Rattle.vault_read.specs.Opened.{FitsKey}
use Rattle.vault_faults.specs.declared.fault.Limit.TheVariants as limit
use Rattle.vault_spec.specs.Findings.{number_of}
use Rattle.vault_spec.specs.Format.{Format, Directory, key_of}
use Rattle.vault_spec.specs.Plan.{Planned}
use Rattle.vault_spec.specs.Standing.{Dir, root_of, standing_in}
use Rattle.vault_spec.specs.Vault.{Vault}
use Rattle.vault_spec.specs.declared.Finding.{Finding}
use Rattle.vault_spec.specs.declared.Finding.TheVariants as is
use Rattle.vault_spec.specs.declared.Lack.{Lack}
use Rattle.vault_spec.specs.declared.Lack.TheVariants as lacks
use Rattle.vault_walk.specs.Nodes.{node_cmp, node_of}
use Rattle.vault_walk.specs.Report.{IsFoundHere}
use Rattle.vault_walk.specs.Survey.{depth_limit, item_limit}
use Rattle.vault_walk.specs.Walking.{Way, AreApart, AreGathered, HasGrown, IsAmong, IsWalked}
use Rattle.vault_walk.specs.declared.fault.WalkFault.{WalkFault}
use Rattle.vault_walk.specs.declared.fault.WalkFault.TheVariants as fault
use Rattle.vault_walk.specs.declared.found.Found.{Found}
use Rattle.vault_walk.specs.declared.key.Node.{Node}
use Rattle.vault_walk.specs.declared.levels.Walk.{Walk}
use Rattle.vault_walk.specs.declared.report.Lead.{Lead}
use Rattle.vault_walk.specs.declared.report.Lead.TheVariants as lead
use Rattle.vault_walk.specs.declared.report.Member.{Member}
use Rattle.vault_walk.specs.declared.report.Report.{Report}
use Rattle.vault_walk.specs.declared.report.What.{What}
use Rattle.vault_walk.specs.declared.report.What.TheVariants as what
use Rattle.vault_walk.specs.declared.twice.Target.{Target}

-- the set has the directories of these ways, and no others
abbrev pub Knows : BTreeSet Node → List Way → Type 0
Knows seen ways = (dir : Directory) → IsTrue (contains node_cmp seen (node_of dir)) ↔ IsAmong ways dir

-- the finding of a directory that lacks this
abbrev pub finding_of : Lack → Finding
finding_of lacks.NoDirKey = is.NoDirKey
finding_of lacks.NoFolder = is.NoFolder

-- the kind of an item, and the item behind the path to its directory
abbrev pub kind_by : What → NodeKind
kind_by what.File = node.File
kind_by (what.Dir lead) = node.Dir

abbrev pub item_by : plain.Path → Member → Planned
item_by path member = record { path = path ++ member.name ∷ []; node = kind_by member.what; at = member.at }

abbrev pub target_at : Path → Directory → Target
target_at at dir = record { node = node_of dir; at = at }

-- a directory item with its key, if it has one
abbrev pub targets_to : Path → Lead → List Target
targets_to at lead.NoKey = []
targets_to at (lead.NoFolder dir) = target_at at dir ∷ []
targets_to at (lead.To dir) = target_at at dir ∷ []

abbrev pub targets_of : Path → What → List Target
targets_of at what.File = []
targets_of at (what.Dir lead) = targets_to at lead

abbrev pub targets_by : Member → List Target
targets_by member = targets_of member.at member.what

-- the way to the directory that an item leads to, if it can be entered
abbrev pub ways_to : plain.Path → Lead → List Way
ways_to path lead.NoKey = []
ways_to path (lead.NoFolder dir) = []
ways_to path (lead.To dir) = record { path = path; dir = dir } ∷ []

abbrev pub ways_of : plain.Path → What → List Way
ways_of path what.File = []
ways_of path (what.Dir lead) = ways_to path lead

abbrev pub ways_by : plain.Path → Member → List Way
ways_by path member = ways_of (path ++ member.name ∷ []) member.what

-- the keys of these directories are of the size that names are stored under
abbrev pub WaysFit : Vault → List Way → Type 0
WaysFit vault ways = (way : Way) → Contains ways way → FitsKey vault way.dir.key

-- of these ways those to directories that were new have joined what was known, and the set has them
pub record HasJoined (seen : BTreeSet Node) (known next ways later : List Way) : Type 0 where
  pub knows : Knows seen (known ++ later)
  pub apart : AreApart (known ++ next) → AreApart (known ++ later)
  pub covers : (way : Way) → Contains ways way → IsAmong (known ++ later) way.dir

-- a walk has gained these items, directory items and ways, and nothing else
pub record HasGained (walk after : Walk) (next : List Way) (items : List Planned) (targets : List Target) (ways later : List Way) : Type 0 where
  pub visits_stay : after.visits.items ≡ walk.visits.items
  pub found_stay : after.found.items ≡ walk.found.items
  pub items_are : after.items.items ≡ walk.items.items ++ items
  pub targets_are : after.targets.items ≡ walk.targets.items ++ targets
  pub extra : List Way
  pub later_is : later ≡ next ++ extra
  pub from : (way : Way) → Contains extra way → Contains ways way
  pub joins : (known : List Way) → Knows walk.seen (known ++ next) → HasJoined after.seen known next ways later

-- a walk has gained what these items of the directory at a path tell
abbrev pub HasGainedMembers : Walk → Walk → plain.Path → List Member → List Way → List Way → Type 0
HasGainedMembers walk after path members next later = HasGained walk after next (map (item_by path) members) (flat_map targets_by members) (flat_map (ways_by path) members) later

-- all but what was found is as it was
pub record HasStayed (walk after : Walk) : Type 0 where
  pub visits_stay : after.visits.items ≡ walk.visits.items
  pub items_stay : after.items.items ≡ walk.items.items
  pub targets_stay : after.targets.items ≡ walk.targets.items
  pub seen_stays : after.seen.keys ≡ walk.seen.keys

-- a directory was visited, in which this was found
pub record HasSettled (walk after : Walk) (way : Way) (found : List Found) : Type 0 where
  pub visits_are : after.visits.items ≡ walk.visits.items ++ way ∷ []
  pub found_are : after.found.items ≡ walk.found.items ++ found
  pub items_stay : after.items.items ≡ walk.items.items
  pub targets_stay : after.targets.items ≡ walk.targets.items
  pub seen_stays : after.seen.keys ≡ walk.seen.keys

-- a directory was visited with this report
pub record HasVisited (walk after : Walk) (way : Way) (report : Report) (next later : List Way) : Type 0 where
  pub between : Walk
  pub gained : HasGainedMembers walk between way.path report.members.items next later
  pub settled : HasSettled between after way report.found.items

-- the root lacks its key or its folder
pub record IsRootLack (f : Format) (v : View) (x : Found) : Type 0 where
  pub lack : Lack
  pub number : x.number ≡ number_of (finding_of lack)
  pub root : root_of f v ≡ Dir x.at (Err lack)

-- this is found at the root, or in the directory of one of these ways
abbrev pub IsMet : Format → View → List Way → Found → Type 0
IsMet f v ways x = IsRootLack f v x ⊎ ((way : Way) × Contains ways way × IsFoundHere f v way.dir x)

-- a directory item of the directory with its key
pub record IsTargetIn (f : Format) (v : View) (dir : Directory) (target : Target) : Type 0 where
  pub name : List ℕ
  pub directory : Result Directory Lack
  pub stands : standing_in f v dir name ≡ Dir target.at directory
  pub key : key_of f (under target.at v) ≡ Some target.node.key
  pub folder : f.folder_of target.at target.node.key ≡ target.node.folder

abbrev pub IsTargetAmong : Format → View → List Way → Target → Type 0
IsTargetAmong f v ways target = (way : Way) × Contains ways way × IsTargetIn f v way.dir target

-- what a walk has gathered of the directories that were visited
pub record HasGathered (f : Format) (v : View) (walk : Walk) : Type 0 where
  pub items : AreGathered f v walk.visits.items walk.items.items
  pub found : (x : Found) → Contains walk.found.items x ↔ IsMet f v walk.visits.items x
  pub targets : (target : Target) → Contains walk.targets.items target ↔ IsTargetAmong f v walk.visits.items target

-- a walk between two levels: directories in fewer steps were visited, and those in so many wait
pub record HasWalked (f : Format) (v : View) (steps : ℕ) (walk : Walk) (waiting : List Way) : Type 0 where
  pub walked : IsWalked f v steps walk.visits.items waiting
  pub knows : Knows walk.seen (walk.visits.items ++ waiting)
  pub tells : HasGathered f v walk

-- a walk within a level: of those that waited some were visited, and of the next level those wait that these lead to
pub record IsAtLevel (f : Format) (v : View) (steps : ℕ) (before level visited : List Way) (walk : Walk) (next : List Way) : Type 0 where
  pub begun : IsWalked f v steps before level
  pub visits : walk.visits.items ≡ before ++ visited
  pub grown : HasGrown f v steps (before ++ level) visited next
  pub knows : Knows walk.seen ((before ++ level) ++ next)
  pub tells : HasGathered f v walk

-- all was visited, and nobody waits
abbrev pub HasEnded : Format → View → Walk → Type 0
HasEnded f v walk = HasWalked f v (suc depth_limit) walk []

-- with the items of this report there would be more than a vault may have
abbrev pub IsPastLimit : Walk → Report → Type 0
IsPastLimit walk report = item_limit < length walk.items.items + length report.members.items

-- How a walk answers: by a limit where the vault passes it, and by the folder only where its count rose.
abbrev pub Answers : {T : Type 0} → Type 0 → Type 0 → ℕ → ℕ → Result T WalkFault → Type 0
Answers many deep before after (Ok value) = before ≤ after
Answers many deep before after (Err (fault.NotClean finding)) = ⊥
Answers many deep before after (Err (fault.Limit limit.Items)) = (before ≤ after) × many
Answers many deep before after (Err (fault.Limit limit.Depth)) = (before ≤ after) × deep
Answers many deep before after (Err (fault.Limit (limit.Length at))) = ⊥
Answers many deep before after (Err (fault.Limit limit.Input)) = ⊥
Answers many deep before after (Err fault.Failed) = (before ≤ after) × CountRose before after
Answers many deep before after (Err fault.NoMemory) = before ≤ after
