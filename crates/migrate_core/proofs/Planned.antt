-- Items of the source's plan, and that the source held them.
use Rattle.std.proofs.Common.{◌≡◌, ◌++◌, List, [], ℕ, Option, Some, refl, sym, ap, ◌∙◌, subst, Contains}
use Rattle.std.specs.List.{concat}
use Rattle.chunk_files.specs.Decoding.{started}
use Rattle.chunk_files.specs.Keys.{Keys}
use Rattle.chunk_files.specs.Reading as reading
use Rattle.item_making.specs.Ending.{Ending, Whole}
use Rattle.content_writing.specs.Content.{Coming, IsReady, IsTold, still_coming}
use Rattle.vault_faults.specs.Limits.{content_limit}
use Rattle.vault_write.specs.ContentsComing.{coming_read, ending_of, held_before}
use Rattle.vault_write.specs.VaultContents.{path_of, coming_of}
use Rattle.vault_write.specs.declared.vault_content.VaultContent.{VaultContent}
use Rattle.folder_spec.specs.Path.{Path, below}
use Rattle.folder_spec.specs.Event.{Told}
use Rattle.folder_spec.specs.Seen.{IfSeen, IsSeen, seen, under, ShowsFile}
use Rattle.folder_spec.specs.State.{State}
use Rattle.folder_spec.specs.View.{View, FileOf, Found}
use Rattle.vault_spec.specs.Mapped.{IsMappedItem}
use Rattle.plain_tree.specs.Names as plain
use Rattle.plain_tree.specs.declared.NodeKind.TheVariants.{Dir, File}
use Rattle.plain_tree.specs.declared.name_map.NameMap.{NameMap}
use Rattle.migration_sides.proofs.Passing.{own_folders}
use Rattle.migration_sides.specs.Sides.{IsWalked}
use Rattle.folder_spec.specs.Apart.{AreSeparate, AreApart}
use Rattle.migration_spec.proofs.Kept.{source_in}
use Rattle.migration_spec.specs.Alone.{Progress, IsAlone, IsIn}
use Rattle.tree_match.specs.Comparing.{bytes_found, content_at}
use Rattle.migration_spec.specs.Guard.{HoldsSource, Migration, tree_at}
use Rattle.tree_match.specs.Trees.{PlannedVault, IsMappedWalkOf, IsWalkOf, side_of, tree_of}
use Rattle.vault_read.specs.Contents.{Reader, limited_reading}
use Rattle.vault_spec.specs.Opened.{OpenedVault}
use Rattle.vault_spec.specs.Alike.{IsOrderly}
use Rattle.vault_spec.specs.Opens.{Content, Directory, Opened, Tree}
use Rattle.vault_spec.specs.Plan.{Planned}
use Rattle.vault_spec.specs.Vault.{format_of}
use Rattle.vault_write.specs.Calls.{ReadsElsewhere}
use Rattle.item_making.specs.Placing.{MayMake}
use Rattle.work_folder.specs.Entering as entering
use Rattle.migrate_core.proofs.MappedItems.{own_item}
use Rattle.migrate_core.proofs.Movings.{source_not_in_target, source_not_in_work}
use Rattle.migrate_core.specs.Sides.{IsItemOf, IsMappedWalk}

-- what is seen of a folder that tells this
pub seen_of : (t : Option Told) (a : Told) → t ≡ Some a → IsSeen t (seen a.state)
seen_of t a is = subst (λ t. IsSeen t (seen a.state)) (sym is) refl

-- in a vault in good order a walk tells its plan
pub walk_of : (from : OpenedVault) (items : List Planned) (t : Option Told) (v : View) → IsWalked t from items → IsSeen t v → IsOrderly (format_of from.vault) (under from.root v) → IsWalkOf v (side_of from items)
walk_of from items t v walked is orderly = walked.plan v is (own_folders from.vault (under from.root v) orderly)

-- also at the mapped paths
pub mapped_walk_of : (rule : NameMap) (from : OpenedVault) (items : List Planned) (t : Option Told) (v : View) → IsMappedWalk rule t from items → IsSeen t v → IsOrderly (format_of from.vault) (under from.root v)
    → IsMappedWalkOf rule v (side_of from items)
mapped_walk_of rule from items t v walked is orderly = record { own = walked.own; walk = walk_of from walked.own t v walked.walked is orderly; mapped = walked.mapped }

-- where each file of it is one is there
pub mapped_files : (rule : NameMap) (from : OpenedVault) (items : List Planned) (t : Option Told) → IsMappedWalk rule t from items → IfSeen t (λ v. (item : Planned) → Contains items item → item.node ≡ File → ShowsFile v item.at)
mapped_files rule from items t walked v is item among node =
    let own = own_item rule walked.own items item walked.mapped among in
    subst (λ (x : Planned). ShowsFile v x.at) own.2 (walked.walked.files v is own.0 own.1 (ap (λ (x : Planned). x.node) own.2 ∙ node))

-- and each item stands behind the vault's root
pub mapped_behind : (rule : NameMap) (from : OpenedVault) (items : List Planned) (t : Option Told) → IsMappedWalk rule t from items → (item : Planned) → Contains items item → (rest : Path) × (item.at ≡ from.root ++ rest)
mapped_behind rule from items t walked item among =
    let own = own_item rule walked.own items item walked.mapped among in
    let behind = walked.walked.behind own.0 own.1 in
    (behind.0, ap (λ (x : Planned). x.at) (sym own.2) ∙ behind.1)

-- how far a migration has come is seen
abbrev pub SeenAlone : Type 0
SeenAlone = (g : Migration) (p : Progress) (s : State) → IsAlone g p s → IsIn g p (seen s)

pub source_held : SeenAlone → (g : Migration) (p : Progress) (s : State) → IsAlone g p s → HoldsSource g (seen s)
source_held shown g p s at = source_in g p (seen s) (shown g p s at)

pub source_walk : SeenAlone → (g : Migration) (p : Progress) (t : Option Told) (a : Told) (items : List Planned) → t ≡ Some a → IsAlone g p a.state → IsWalked t g.source items
    → IsWalkOf (seen a.state) (side_of g.source items)
source_walk shown g p t a items is at walked = walk_of g.source items t (seen a.state) walked (seen_of t a is) (source_held shown g p a.state at).there.good.orderly

pub source_mapped_walk : SeenAlone → (g : Migration) (p : Progress) (t : Option Told) (a : Told) (items : List Planned) → t ≡ Some a → IsAlone g p a.state → IsMappedWalk g.names t g.source items
    → IsMappedWalkOf g.names (seen a.state) (side_of g.source items)
source_mapped_walk shown g p t a items is at walked = mapped_walk_of g.names g.source items t (seen a.state) walked (seen_of t a is) (source_held shown g p a.state at).there.good.orderly

-- what is so at a mapped path of one tree is so of another in which all opens as in it
pub mapped_alike : (rule : NameMap) (m t : Tree) (path : plain.Path) (opened : Opened) → ((q : plain.Path) → m q ≡ t q) → IsMappedItem rule m path opened → IsMappedItem rule t path opened
mapped_alike rule m t path opened same x = record { from = x.from; comes = x.comes; is = sym (same x.from) ∙ x.is }

-- ---- a directory

abbrev pub DirectoriesOpen : Type 0
DirectoriesOpen = (v : View) (names : NameMap) (a : PlannedVault) (item : Planned) → IsMappedWalkOf names v a → Contains a.items item → item.node ≡ Dir → IsMappedItem names (tree_of v a) item.path Directory

pub directory_held : SeenAlone → DirectoriesOpen → (g : Migration) (p : Progress) (t : Option Told) (a : Told) (item : Planned) → t ≡ Some a → IsAlone g p a.state → IsItemOf g.names t g.source item
    → item.node ≡ Dir → IsMappedItem g.names g.held item.path Directory
directory_held shown opens g p t a item is at of node =
    mapped_alike g.names (tree_at g.source (seen a.state)) g.held item.path Directory (source_held shown g p a.state at).held
    (opens (seen a.state) g.names (side_of g.source of.items) item (source_mapped_walk shown g p t a of.items is at of.walked) of.among node)

-- ---- a file

abbrev pub FilesOpen : Type 0
FilesOpen = (v : View) (names : NameMap) (a : PlannedVault) (item : Planned) → IsMappedWalkOf names v a → Contains a.items item → item.node ≡ File → (content_at (format_of a.vault).content v item.at).ending ≡ reading.Whole
    → IsMappedItem names (tree_of v a) item.path (Content (content_at (format_of a.vault).content v item.at).bytes)

abbrev pub FilesFit : Type 0
FilesFit = (keys : Keys) (at : Path) (bytes : List ℕ) → coming_read (record { at = at; decoding = started keys }) content_limit [] (FileOf bytes) ≡ Some (held_before at [] (limited_reading keys bytes))

-- a reader of the item's file, from its start
abbrev pub reader_of : OpenedVault → Planned → Reader
reader_of from item = record { at = item.at; decoding = started (format_of from.vault).content }

whole_reading : (at : Path) (ending : reading.Ending) → ending_of at ending ≡ Whole → ending ≡ reading.Whole
whole_reading at reading.Whole e = refl
whole_reading at (reading.Faulty fault) e = cc e
whole_reading at reading.Wanting e = cc e

some_is : {c d : Coming} → Some c ≡ Some d → c ≡ d
some_is e = cc e

-- what is to come of it, where it comes whole, opens in the source
pub file_opens : FilesOpen → FilesFit → (rule : NameMap) (from : OpenedVault) (t : Option Told) (a : Told) (item : Planned) → t ≡ Some a → (of : IsItemOf rule t from item) → IsMappedWalkOf rule (seen a.state) (side_of from of.items)
    → item.node ≡ File
    → (content : List ℕ) (ending : Ending)
    → ((c : Coming) → coming_read (reader_of from item) content_limit [] (seen a.state item.at) ≡ Some c → c ≡ record { bytes = content; ending = ending })
    → ending ≡ Whole → IsMappedItem rule (tree_at from (seen a.state)) item.path (Content content)
file_opens opens fits rule from t a item is of walk node content ending told whole =
    subst (λ bytes. IsMappedItem rule (tree_at from (seen a.state)) item.path (Content bytes)) (sym (sym comes ∙ same)) (opens (seen a.state) rule (side_of from of.items) item walk of.among node ended)
  where
    keys : Keys
    keys = (format_of from.vault).content

    there : ShowsFile (seen a.state) item.at
    there = mapped_files rule from of.items t of.walked (seen a.state) (seen_of t a is) item of.among node

    read : reading.Reading
    read = limited_reading keys there.0

    coming : held_before item.at [] read ≡ record { bytes = content; ending = ending }
    coming = told (held_before item.at [] read) (ap (coming_read (reader_of from item) content_limit []) there.1 ∙ fits keys item.at there.0)

    comes : concat read.chunks ≡ content
    comes = ap (λ (c : Coming). c.bytes) coming

    found : bytes_found (seen a.state item.at) ≡ there.0
    found = ap bytes_found there.1

    same : concat read.chunks ≡ (content_at keys (seen a.state) item.at).bytes
    same = ap (λ bytes. concat (limited_reading keys bytes).chunks) (sym found)

    ended : (content_at keys (seen a.state) item.at).ending ≡ reading.Whole
    ended = ap (λ bytes. (limited_reading keys bytes).ending) found ∙ whole_reading item.at read.ending (ap (λ (c : Coming). c.ending) coming ∙ whole)

-- and is what the source held
pub file_held : SeenAlone → FilesOpen → FilesFit → (g : Migration) (p : Progress) (t : Option Told) (a : Told) (item : Planned) → t ≡ Some a → IsAlone g p a.state → IsItemOf g.names t g.source item
    → item.node ≡ File → (content : List ℕ) (ending : Ending)
    → ((c : Coming) → coming_read (reader_of g.source item) content_limit [] (seen a.state item.at) ≡ Some c → c ≡ record { bytes = content; ending = ending })
    → ending ≡ Whole → IsMappedItem g.names g.held item.path (Content content)
file_held shown opens fits g p t a item is at of node content ending told whole =
    mapped_alike g.names (tree_at g.source (seen a.state)) g.held item.path (Content content) (source_held shown g p a.state at).held
    (file_opens opens fits g.names g.source t a item is of (source_mapped_walk shown g p t a of.items is at of.walked) node content ending told whole)

-- ---- the content of a file

-- the content gives what a reader of the item's file has to give
pub record IsContentOf (from : OpenedVault) (item : Planned) (content : VaultContent) : Type 0 where
  pub reads : path_of content ≡ Some item.at
  pub coming : (found : Found) → coming_of content found ≡ coming_read (reader_of from item) content_limit [] found

pub content_is : (from : OpenedVault) (item : Planned) (reader : Reader) (content : VaultContent) → reader ≡ reader_of from item → path_of content ≡ Some reader.at
    → ((found : Found) → coming_of content found ≡ coming_read reader content_limit [] found) → IsContentOf from item content
content_is from item reader content is reads coming = record {
  reads = reads ∙ ap (λ (r : Reader). Some r.at) is;
  coming = λ found. coming found ∙ ap (λ r. coming_read r content_limit [] found) is;
}

pub content_coming : (from : OpenedVault) (item : Planned) (content : VaultContent) → IsContentOf from item content → (a : Told)
    → still_coming (path_of content) (Some a) (coming_of content) ≡ coming_read (reader_of from item) content_limit [] (seen a.state item.at)
content_coming from item content is a = ap (λ r. still_coming r (Some a) (coming_of content)) is.reads ∙ is.coming (seen a.state item.at)

-- what is told of what comes is told of what the source's file gives
pub coming_told : (from : OpenedVault) (item : Planned) (content : VaultContent) → IsContentOf from item content → (t : Option Told) (whole : Coming) → ((c : Coming) → still_coming (path_of content) t (coming_of content) ≡ Some c → c ≡ whole)
    → (a : Told) → t ≡ Some a → (c : Coming) → coming_read (reader_of from item) content_limit [] (seen a.state item.at) ≡ Some c → c ≡ whole
coming_told from item content gives t whole told a is c comes = told c (ap (λ x. still_coming (path_of content) x (coming_of content)) is ∙ content_coming from item content gives a ∙ comes)

is_told : {c : Option Coming} {d : Coming} → c ≡ Some d → IsTold c
is_told e = subst IsTold (sym e) tt

pub content_ready : FilesFit → (rule : NameMap) (from : OpenedVault) (item : Planned) (content : VaultContent) → IsContentOf from item content → (t : Option Told) → IsItemOf rule t from item → item.node ≡ File
    → IsReady (path_of content) t (coming_of content)
content_ready fits rule from item content is t of node = subst (λ r. IsReady r t (coming_of content)) (sym is.reads) (λ v shown.
    let there : ShowsFile v item.at = mapped_files rule from of.items t of.walked v shown item of.among node in
    is_told (is.coming (v item.at) ∙ ap (coming_read (reader_of from item) content_limit []) there.1 ∙ fits (format_of from.vault).content item.at there.0))

pub content_elsewhere : (rule : NameMap) (from : OpenedVault) (to work : Path) (item : Planned) (content : VaultContent) → IsContentOf from item content → AreSeparate from.root to work
    → (t : Option Told) → IsItemOf rule t from item → ReadsElsewhere (path_of content) work to
content_elsewhere rule from to work item content is separate t of =
    let behind = mapped_behind rule from of.items t of.walked item of.among in
    subst (λ r. ReadsElsewhere r work to) (sym is.reads) (
      ap (below work) behind.1 ∙ source_not_in_work from.root to work behind.0 separate,
      ap (below to) behind.1 ∙ source_not_in_target from.root to work behind.0 separate,
    )

-- ---- the target

pub may_make : (t : Option Told) (work root : Path) → AreApart root work → IfSeen t (λ v. entering.IsReady v work) → MayMake t work root
may_make t work root apart ready = record { ready = ready; apart = apart.other; beside = apart.one }
