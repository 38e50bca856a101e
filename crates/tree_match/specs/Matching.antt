-- Whether a vault holds all items of another, by the plans of the two.
use Rattle.std.specs.Prelude.{◌≡◌, List, [], ◌∷◌, Bool, true, false, Option, Some, None, if◌then◌else◌, Contains}
use Rattle.chunk_files.specs.Keys.{Keys}
use Rattle.folder_spec.specs.Seen.{ShowsFile}
use Rattle.folder_spec.specs.View.{View}
use Rattle.plain_tree.specs.Names as plain
use Rattle.plain_tree.specs.Order.{path_eq}
use Rattle.plain_tree.specs.declared.NodeKind.{NodeKind}
use Rattle.plain_tree.specs.declared.NodeKind.TheVariants.{Dir, File}
use Rattle.vault_spec.specs.Plan.{Planned}
use Rattle.vault_walk.specs.Survey.{IsOrdered}
use Rattle.tree_match.specs.Comparing.{Outcome, Is, Stops, compared, content_at}
use Rattle.tree_match.specs.declared.answer.How.{How}
use Rattle.tree_match.specs.declared.answer.How.TheVariants.{Missing, Kind, Content}
use Rattle.tree_match.specs.declared.answer.Match.{Match}
use Rattle.tree_match.specs.declared.answer.Match.TheVariants.{Same, Contained, Differs}
use Rattle.tree_match.specs.declared.answer.Where.{Where}
use Rattle.tree_match.specs.declared.answer.Where.TheVariants as place

-- a plan can be matched: its items are in order of their paths, each path once, and a file stands where each file is
pub record IsMatchable (v : View) (items : List Planned) : Type 0 where
  pub ordered : IsOrdered items
  pub files : (item : Planned) → Contains items item → item.node ≡ File → ShowsFile v item.at

-- the item with this path
abbrev pub item_with : plain.Path → List Planned → Option Planned
item_with path [] = None
item_with path (item ∷ items) = if path_eq item.path path then Some item else item_with path items

-- how the content of a file differs from the other's, if it does
abbrev pub content_held : Outcome Bool → Outcome (Option How)
content_held (Is true) = Is None
content_held (Is false) = Is (Some Content)
content_held (Stops at ending) = Stops at ending

abbrev pub held_as : NodeKind → NodeKind → Outcome Bool → Outcome (Option How)
held_as Dir Dir contents = Is None
held_as File File contents = content_held contents
held_as Dir File contents = Is (Some Kind)
held_as File Dir contents = Is (Some Kind)

-- how an item of the one vault differs from the item of the other that has its path, if it does
abbrev pub held_by : Keys → Keys → View → Planned → Option Planned → Outcome (Option How)
held_by a b v item None = Is (Some Missing)
held_by a b v item (Some other) = held_as item.node other.node (compared (content_at a v item.at) (content_at b v other.at))

-- by how one item differs, if it does, and what follows it
abbrev pub by_item : plain.Path → Outcome (Option How) → Outcome Match → Outcome Match
by_item path (Is None) rest = rest
by_item path (Is (Some how)) rest = Is (Differs path how)
by_item path (Stops at ending) rest = Stops at ending

-- the first of these items that differs, or else this
unfoldable pub first_differing : (Planned → Outcome (Option How)) → List Planned → Outcome Match → Outcome Match
first_differing held [] last = last
first_differing held (item ∷ items) last = by_item item.path (held item) (first_differing held items last)

-- by the item that has a path, if one does, and what follows it
abbrev pub by_other : plain.Path → Option Planned → Match → Match
by_other path None rest = Contained path
by_other path (Some item) rest = rest

-- the first of the others whose path none of the items has, if there is one
unfoldable pub first_further : List Planned → List Planned → Match
first_further items [] = Same
first_further items (other ∷ others) = by_other other.path (item_with other.path items) (first_further items others)

-- whether the second vault, of which the others are, holds all items of the first
abbrev pub matched : Keys → List Planned → Keys → List Planned → View → Outcome Match
matched a items b others v =
    first_differing (λ item. held_by a b v item (item_with item.path others)) items (Is (first_further items others))

-- how an item of the first vault isn't so in the second
abbrev pub where_of : How → Where
where_of Missing = place.Missing
where_of Kind = place.Kind
where_of Content = place.Content
