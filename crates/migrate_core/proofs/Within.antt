-- A vault of which the items are some of another's, at their mapped paths, passes no limit that the other doesn't.
use Rattle.std.proofs.Common.{◌≡◌, ◌≢◌, ◌<◌, ℕ, zero, suc, List, [], ◌∷◌, ◌++◌, length, get_or, Contains, Some, refl, sym, ap, ◌∙◌, subst, arith}
use Rattle.std.proofs.lemmas.List.Elements.{Contains-get_or}
use Rattle.folder_spec.proofs.Paths.{child-injective, child-last, child-not_base}
use Rattle.folder_spec.specs.Seen.{ShowsFile}
use Rattle.folder_spec.specs.View.{View}
use Rattle.plain_tree.specs.Mapped.{mapped_path}
use Rattle.plain_tree.specs.Names as plain
use Rattle.plain_tree.specs.declared.NodeKind.{NodeKind}
use Rattle.plain_tree.specs.declared.NodeKind.TheVariants as node
use Rattle.plain_tree.specs.declared.name_map.NameMap.{NameMap}
use Rattle.vault_spec.specs.Mapped.{IsMappedItem, IsPartOfMapped}
use Rattle.vault_spec.specs.Alike.{IsOrderly}
use Rattle.vault_spec.specs.Format.{Directory, Format, file_bytes}
use Rattle.vault_spec.specs.Listing.{node_of}
use Rattle.vault_spec.specs.Opens as opens
use Rattle.vault_spec.specs.Opens.{NoItem, opened, opened_file, tree}
use Rattle.vault_spec.specs.Plan.{Planned, StandsBelow}
use Rattle.vault_spec.specs.Reached.{IsReachedIn, Leads}
use Rattle.vault_spec.specs.Standing.{Absent, Dir, File, Standing, Strange, standing, standing_in}
use Rattle.vault_spec.specs.Vault.{Vault, format_of}
use Rattle.vault_walk.specs.Survey.{HasTooMany, IsItem, IsNear, IsPathOf, IsTooDeep, depth_limit, item_limit}
use Rattle.vault_walk.specs.Surveyed.{IsWithin}
use Rattle.migrate_core.proofs.Fronts.{stands_in}
use Rattle.vault_walk.proofs.Walks.{StandBehind, StandBelow}
use Rattle.migrate_core.proofs.MappedItems.{MappedParts, mapped_parts, mapped_size}
use Rattle.vault_spec.proofs.Endings.{content_opens}
use Rattle.tree_match.proofs.HeldTrees.{FilesAreThere}

-- ---- what stands opens

item_opens : StandBehind → FilesAreThere → (vault : Vault) (v : View) (front : plain.Path) (dir : Directory) (name : List ℕ) (kind : NodeKind) → Leads (format_of vault) v front dir
    → node_of (standing_in (format_of vault) v dir name) ≡ Some kind → tree (format_of vault) v (front ++ name ∷ []) ≢ NoItem
unfolding opened
item_opens behind files vault v front dir name kind leads is = by (standing (format_of vault) v (front ++ name ∷ [])) refl (ap node_of (behind (format_of vault) v front dir name leads) ∙ is)
  where
    by : (s : Standing) → standing (format_of vault) v (front ++ name ∷ []) ≡ s → node_of s ≡ Some kind → opens.opened_at (format_of vault) v s ≢ NoItem
    by Absent e n = cc n
    by (Strange at) e n = cc n
    by (Dir at directory) e n = λ o. cc o
    by (File at) e n =
        let there : ShowsFile v at = files vault v (front ++ name ∷ []) at e in
        λ o. content_opens (format_of vault).content there.0 (ap (λ x. opened_file (format_of vault).content (file_bytes x)) (sym there.1) ∙ o)

-- what opens is an item
some_node : (f : Format) (v : View) (s : Standing) → opens.opened_at f v s ≢ NoItem → (kind : NodeKind) × (node_of s ≡ Some kind)
some_node f v Absent is = absurd (is refl)
some_node f v (Strange at) is = absurd (is refl)
some_node f v (File at) is = (node.File, refl)
some_node f v (Dir at directory) is = (node.Dir, refl)

opened_node : (f : Format) (v : View) (path : plain.Path) → tree f v path ≢ NoItem → (kind : NodeKind) × (node_of (standing f v path) ≡ Some kind)
unfolding opened
opened_node f v path is = some_node f v (standing f v path) is

-- ---- from the one vault to the other

-- the item of the other vault at a path, in the directory that its names before lead to
record IsSpot (f : Format) (v : View) (front : plain.Path) (name : List ℕ) : Type 0 where
  dir : Directory
  leads : Leads f v front dir
  item : IsItem f v (record { dir = dir; name = name })

spot_at : StandBelow → (f : Format) (v : View) (front : plain.Path) (name : List ℕ) → tree f v (front ++ name ∷ []) ≢ NoItem → IsSpot f v front name
spot_at below f v front name there =
    let up : StandsBelow f v (front ++ name ∷ []) = stands_in below f v front name there in
    let same : up.front ≡ front = sym (child-injective front up.front name up.name up.is) in
    let last : up.name ≡ name = sym (child-last front name up.name (up.is ∙ ap (λ q. q ++ up.name ∷ []) same)) in
    let kind : (k : NodeKind) × (node_of (standing f v (front ++ name ∷ [])) ≡ Some k) = opened_node f v (front ++ name ∷ []) there in
    let leads : Leads f v front up.dir = subst (λ q. Leads f v q up.dir) same up.leads in
    record {
      dir = up.dir;
      leads = leads;
      item = record { reached = (front, leads); node = kind.0; stands = ap (λ n. node_of (standing_in f v up.dir n)) (sym last) ∙ ap node_of up.stands ∙ kind.1 };
    }

-- in an orderly vault a path that leads to a directory is its shortest
least_at : (f : Format) (v : View) → IsOrderly f v → (front : plain.Path) (dir : Directory) → Leads f v front dir → IsReachedIn f v (length front) dir
least_at f v orderly front dir leads = record {
  path = front;
  leads = leads;
  size = refl;
  least = λ other way shorter. let same : length other ≡ length front = ap length (orderly.one_path other front dir way leads) in omega (arith, same, shorter);
}

-- an item of a vault from which one comes that stands under a name behind a front in another
record ComingSpot (rule : NameMap) (f : Format) (v : View) (front : plain.Path) (name : List ℕ) : Type 0 where
  path : plain.Path
  comes : mapped_path rule path ≡ front ++ name ∷ []
  parts : MappedParts rule path front name
  spot : IsSpot f v parts.own parts.last

-- and one from which a planned item comes
record ComingItem (rule : NameMap) (f : Format) (v : View) (item : Planned) : Type 0 where
  own : Planned
  comes : mapped_path rule own.path ≡ item.path
  near : IsNear f v own

-- those from which these come, one by one
record ComingItems (rule : NameMap) (f : Format) (v : View) (items : List Planned) : Type 0 where
  own : List Planned
  size : length own ≡ length items
  comes : (k : ℕ) (d : Planned) → k < length items → mapped_path rule (get_or own k d).path ≡ (get_or items k d).path
  near : (item : Planned) → Contains own item → IsNear f v item

coming_more : (rule : NameMap) (f : Format) (v : View) (x : Planned) (items : List Planned) → ComingItem rule f v x → ComingItems rule f v items → ComingItems rule f v (x ∷ items)
coming_more rule f v x items one more = record { own = one.own ∷ more.own; size = omega (arith, more.size); comes = comes; near = near }
  where
    comes : (k : ℕ) (d : Planned) → k < length (x ∷ items) → mapped_path rule (get_or (one.own ∷ more.own) k d).path ≡ (get_or (x ∷ items) k d).path
    comes zero d few = one.comes
    comes (suc k) d few = more.comes k d (omega (arith, few))

    near : (item : Planned) → Contains (one.own ∷ more.own) item → IsNear f v item
    near item (zero, few, is) = subst (IsNear f v) is one.near
    near item (suc k, few, is) = more.near item (k, omega (arith, few), is)

coming_items : (rule : NameMap) (f : Format) (v : View) (items : List Planned) → ((item : Planned) → Contains items item → ComingItem rule f v item) → ComingItems rule f v items
coming_items rule f v [] each = record { own = []; size = refl; comes = λ k d few. absurd (omega (arith, few)); near = λ item among. absurd (omega (arith, among.1)) }
coming_items rule f v (x ∷ items) each =
    coming_more rule f v x items (each x (zero, omega arith, refl)) (coming_items rule f v items (λ item among. each item (suc among.0, omega (arith, among.1), among.2)))

module _ (below : StandBelow) (behind : StandBehind) (files : FilesAreThere) (rule : NameMap) (from to : Vault) (u w : View) (orderly : IsOrderly (format_of from) u) (orderly_to : IsOrderly (format_of to) w)
    (part : IsPartOfMapped rule (tree (format_of to) w) (tree (format_of from) u)) where
  -- an item of the one vault comes from one of the other
  other_spot : (front : plain.Path) (dir : Directory) (name : List ℕ) (kind : NodeKind) → Leads (format_of to) w front dir → node_of (standing_in (format_of to) w dir name) ≡ Some kind
      → ComingSpot rule (format_of from) u front name
  other_spot front dir name kind leads is =
      let there : tree (format_of to) w (front ++ name ∷ []) ≢ NoItem = item_opens behind files to w front dir name kind leads is in
      let x : IsMappedItem rule (tree (format_of from) u) (front ++ name ∷ []) (tree (format_of to) w (front ++ name ∷ [])) = (part (front ++ name ∷ []) (child-not_base front name) there).0 in
      let parts : MappedParts rule x.from front name = mapped_parts rule x.from front name x.comes in
      record {
        path = x.from;
        comes = x.comes;
        parts = parts;
        spot = spot_at below (format_of from) u parts.own parts.last (λ none. there (sym x.is ∙ ap (tree (format_of from) u) parts.is ∙ none));
      }

  other_near : (item : Planned) → IsNear (format_of to) w item → ComingItem rule (format_of from) u item
  other_near item near =
      let at = near.path in
      let coming : ComingSpot rule (format_of from) u at.front near.spot.name = other_spot at.front near.spot.dir near.spot.name near.is.node at.leads near.is.stands in
      let same : near.reached.path ≡ at.front = orderly_to.one_path near.reached.path at.front near.spot.dir near.reached.leads at.leads in
      let size : length coming.parts.own ≡ near.steps = mapped_size rule coming.parts.own at.front coming.parts.maps ∙ sym (ap length same) ∙ near.reached.size in
      let less : near.steps < depth_limit = near.near in
      record {
        own = record { path = coming.path; node = item.node; at = item.at };
        comes = coming.comes ∙ sym at.is;
        near = record {
          spot = record { dir = coming.spot.dir; name = coming.parts.last };
          is = coming.spot.item;
          path = record { front = coming.parts.own; is = coming.parts.is; leads = coming.spot.leads };
          steps = length coming.parts.own;
          near = subst (λ n. n < depth_limit) (sym size) less;
          reached = least_at (format_of from) u orderly coming.parts.own coming.spot.dir coming.spot.leads;
        };
      }

  other_many : HasTooMany (format_of to) w → HasTooMany (format_of from) u
  other_many many = record {
    items = coming.own;
    near = coming.near;
    once = λ i j d before few spot one two.
        let inside : j < length many.items = subst (λ n. j < n) coming.size few in
        let first : IsNear (format_of to) w (get_or many.items i d) = many.near (get_or many.items i d) (Contains-get_or many.items i d (omega (arith, before, inside))) in
        let fronts : two.front ≡ one.front = orderly.one_path two.front one.front spot.dir two.leads one.leads in
        let own : (get_or coming.own j d).path ≡ (get_or coming.own i d).path = two.is ∙ ap (λ q. q ++ spot.name ∷ []) fronts ∙ sym one.is in
        let same : (get_or many.items j d).path ≡ (get_or many.items i d).path = sym (coming.comes j d inside) ∙ ap (mapped_path rule) own ∙ coming.comes i d (omega (arith, before, inside)) in
        many.once i j d before inside first.spot first.path (subst (IsPathOf (format_of to) w first.spot) (sym same) first.path);
    more = subst (λ n. item_limit < n) (sym coming.size) many.more;
  }
    where
      coming : ComingItems rule (format_of from) u many.items
      coming = coming_items rule (format_of from) u many.items (λ item among. other_near item (many.near item among))

  other_deep : IsTooDeep (format_of to) w → IsTooDeep (format_of from) u
  other_deep deep =
      let at = deep.deep in
      let coming : ComingSpot rule (format_of from) u at.path deep.spot.name = other_spot at.path deep.spot.dir deep.spot.name deep.item.node at.leads deep.item.stands in
      record {
        spot = record { dir = coming.spot.dir; name = coming.parts.last };
        item = coming.spot.item;
        deep = subst (λ n. IsReachedIn (format_of from) u n coming.spot.dir) (mapped_size rule coming.parts.own at.path coming.parts.maps ∙ at.size)
            (least_at (format_of from) u orderly coming.parts.own coming.spot.dir coming.spot.leads);
      }

  pub part_within : IsWithin (format_of from) u → IsWithin (format_of to) w
  part_within within = record { items = λ many. within.items (other_many many); depth = λ deep. within.depth (other_deep deep) }
