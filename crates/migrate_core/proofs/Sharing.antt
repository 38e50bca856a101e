-- That only an item which shares its place stops at a taken one.
use Rattle.std.proofs.Common.{◌≡◌, ◌≢◌, ◌⊎◌, inl, inr, ◌<◌, ◌+◌, ℕ, zero, suc, Bool, true, false, ◌&&◌, List, [], ◌∷◌, ◌++◌, length, take, get_or, Contains, IsTrue, Option, Err, refl, sym, ap, ◌∙◌, subst, subst₂, append_assoc, append-nil, arith}
use Rattle.std.proofs.lemmas.Cmp.{tied_itself}
use Rattle.std.proofs.lemmas.List.{get_or_default, take_more}
use Rattle.std.proofs.lemmas.List.Elements.{Contains-append_cases, Contains-append_left, Contains-append_right}
use Rattle.std.specs.List.{list_all}
use Rattle.std.specs.declared.cmp.Ordering.TheVariants.{Less, Equal}
use Rattle.item_making.specs.Ending.{Ending}
use Rattle.item_making.specs.declared.fault.PutFault.{PutFault}
use Rattle.item_making.specs.declared.fault.PutFault.TheVariants as put
use Rattle.folder_spec.proofs.Paths.{base_or_child}
use Rattle.folder_spec.specs.Event.{Told}
use Rattle.folder_spec.specs.Path.{Path}
use Rattle.folder_spec.specs.Seen.{IfSeen, IsSeen, seen, under}
use Rattle.folder_spec.specs.View.{View}
use Rattle.plain_tree.specs.Names as plain
use Rattle.plain_tree.specs.Names.{is_name}
use Rattle.plain_tree.specs.Mapped.{mapped_path}
use Rattle.plain_tree.specs.Order.{path_cmp}
use Rattle.plain_tree.specs.declared.name_map.NameMap.{NameMap}
use Rattle.port_model.specs.Draws.{ByteStream, Draws}
use Rattle.migration_sides.specs.Sides.{IsWalked, opened_in}
use Rattle.tree_match.specs.Trees.{side_of}
use Rattle.vault_read.specs.Laws.{KeepsVaults}
use Rattle.vault_spec.specs.Opened.{OpenedVault}
use Rattle.vault_spec.specs.Alike.{HasNoItem}
use Rattle.vault_spec.specs.Format.{file_bytes}
use Rattle.vault_spec.specs.Making.{NewItem}
use Rattle.vault_spec.specs.Opens as opens
use Rattle.vault_spec.specs.Opens.{NoItem, Opened, opened, opened_file, tree}
use Rattle.vault_spec.specs.Plan.{Planned}
use Rattle.vault_spec.specs.Reached.{Leads}
use Rattle.vault_spec.specs.Standing.{Absent, Dir, File, Standing, Strange, standing, standing_in}
use Rattle.vault_spec.specs.Staying.{LoadsAlike}
use Rattle.vault_spec.specs.Tidy.{StaysTidy}
use Rattle.vault_spec.specs.Vault.{IsVault, Vault, format_of}
use Rattle.vault_write.specs.Calls.{IsOfMaking, MakesAt, New}
use Rattle.vault_write.specs.Refusing.{Answers}
use Rattle.migrate_core.proofs.Compared.{planned_at}
use Rattle.tree_match.proofs.Passing.{TellsTree}
use Rattle.migrate_core.proofs.Copyings.{copied_as}
use Rattle.migrate_core.proofs.Endings.{root_directory}
use Rattle.vault_walk.proofs.OpenDirectories.{EnteredLeads}
use Rattle.migrate_core.proofs.Searched.{paths_total, there_where}
use Rattle.migrate_core.proofs.MappedItems.{ComesFrom, TellsMapped, comes_from}
use Rattle.migrate_core.proofs.Stopping.{Stays}
use Rattle.vault_walk.proofs.Walks.{StandBehind}
use Rattle.vault_spec.proofs.Endings.{content_opens}
use Rattle.migrate_core.specs.Causes.{IsStop, StopsLater, nothing_stops}
use Rattle.migrate_core.specs.Copying.{Copies, HasCopied, MayBegin}
use Rattle.migration_spec.specs.Guard.{tree_at}
use Rattle.migrate_core.specs.Faults.{IsOfTest, of_put}
use Rattle.migrate_core.specs.Limits.{StopsFor}
use Rattle.migrate_core.specs.Sharing.{Fills, HasOnly, IsFilled, IsMadeFor, IsOfTaken, Lacks, LacksOther, OneShares, SharesAsTold, SharesFrom, SharesInTree, SharesPlace, SharesSeen}
use Rattle.migrate_core.specs.Sides.{AreItemsToMove}
use Rattle.migrate_core.specs.Moved.{is_there}
use Rattle.work_folder.specs.Entering.{IsReady}
use Rattle.migrate_core.specs.declared.fault.MoveFault.{MoveFault}
use Rattle.migrate_core.specs.declared.fault.MoveFault.TheVariants.{Work, Journal as Unread, Overlap, Load, Walk, NotEmpty, NotAllowed, Meet, Changed, Match as Matching, Differ, Place, SourceGone, Failed, NoMemory}
use Rattle.tree_match.proofs.HeldTrees.{FilesAreThere}
use Rattle.migrate_core.proofs.Writings.{Compose}

-- ---- faults

by_taken : (Q : Type 0) (fault : MoveFault) → ((at : Path) → fault ≡ Place (put.Taken at) → Q) → IsOfTaken Q fault
by_taken Q (Place (put.Taken at)) is = is at refl
by_taken Q (Place (put.Find why)) is = tt
by_taken Q (Place (put.NotAllowed path)) is = tt
by_taken Q (Place (put.Damaged at why)) is = tt
by_taken Q (Place (put.Limit which)) is = tt
by_taken Q (Place put.ZeroRandom) is = tt
by_taken Q (Place put.Source) is = tt
by_taken Q (Place put.Random) is = tt
by_taken Q (Place put.Failed) is = tt
by_taken Q (Place put.NoMemory) is = tt
by_taken Q (Matching why) is = tt
by_taken Q (Work why) is = tt
by_taken Q (Unread why) is = tt
by_taken Q (Overlap p q) is = tt
by_taken Q (Load side why) is = tt
by_taken Q (Walk why) is = tt
by_taken Q (NotEmpty at) is = tt
by_taken Q (NotAllowed path) is = tt
by_taken Q (Meet one other) is = tt
by_taken Q (Changed plan items plan' items') is = tt
by_taken Q (Differ path how) is = tt
by_taken Q SourceGone is = tt
by_taken Q Failed is = tt
by_taken Q NoMemory is = tt

pub taken_more : (P Q : Type 0) (fault : MoveFault) → (P → Q) → IsOfTaken P fault → IsOfTaken Q fault
taken_more P Q fault more h = by_taken Q fault (λ at is. more (subst (IsOfTaken P) is h))

pub taken_for : (P Q : Type 0) (fault : MoveFault) → (P → Q) → StopsFor P fault → IsOfTaken Q fault
taken_for P Q fault more h = by_taken Q fault (λ at is. more (subst (StopsFor P) is h))

pub whichever_taken : (fault : MoveFault) → IsOfTaken (Unit {0}) fault
whichever_taken fault = by_taken (Unit {0}) fault (λ at is. tt)

-- where no item is placed, none is taken
pub later_taken : (Is R : View → Type 0) (t u : Option Told) (fault : MoveFault) → IfSeen t (λ v. (w : View) × IsSeen u w) → StopsLater Is u fault → IsOfTaken (IfSeen t (λ v. R v)) fault
later_taken Is R t u fault after later =
    by_taken (IfSeen t (λ v. R v)) fault (λ at is v seen. let w : (w : View) × IsSeen u w = after v seen in absurd (subst (IsStop (Is w.0) nothing_stops) is (later w.0 w.1)))

pub stops_more : (P Q : Type 0) (fault : MoveFault) → (P → Q) → StopsFor P fault → StopsFor Q fault
stops_more P Q (Place (put.Taken at)) more h = more h
stops_more P Q (Place (put.Find why)) more h = tt
stops_more P Q (Place (put.NotAllowed path)) more h = tt
stops_more P Q (Place (put.Damaged at why)) more h = tt
stops_more P Q (Place (put.Limit which)) more h = tt
stops_more P Q (Place put.ZeroRandom) more h = tt
stops_more P Q (Place put.Source) more h = tt
stops_more P Q (Place put.Random) more h = tt
stops_more P Q (Place put.Failed) more h = tt
stops_more P Q (Place put.NoMemory) more h = tt
stops_more P Q (Matching why) more h = absurd h
stops_more P Q (Work why) more h = tt
stops_more P Q (Unread why) more h = tt
stops_more P Q (Overlap p q) more h = tt
stops_more P Q (Load side why) more h = tt
stops_more P Q (Walk why) more h = tt
stops_more P Q (NotEmpty at) more h = tt
stops_more P Q (NotAllowed path) more h = tt
stops_more P Q (Meet one other) more h = tt
stops_more P Q (Changed plan items plan' items') more h = tt
stops_more P Q (Differ path how) more h = tt
stops_more P Q SourceGone more h = tt
stops_more P Q Failed more h = tt
stops_more P Q NoMemory more h = tt

put_stops : (Q : Type 0) (why : PutFault) → ((at : Path) → why ≡ put.Taken at → Q) → StopsFor Q (of_put why)
put_stops Q (put.Taken at) is = is at refl
put_stops Q (put.Find why) is = tt
put_stops Q (put.NotAllowed path) is = tt
put_stops Q (put.Damaged at why) is = tt
put_stops Q (put.Limit which) is = tt
put_stops Q put.ZeroRandom is = tt
put_stops Q put.Source is = tt
put_stops Q put.Random is = tt
put_stops Q put.Failed is = tt
put_stops Q put.NoMemory is = tt

-- no item is placed where a test refuses
pub tested_taken : (Q : Type 0) (fault : MoveFault) → IsOfTest fault → IsOfTaken Q fault
tested_taken Q fault tested = by_taken Q fault (λ at is. absurd (subst IsOfTest is tested))

-- ---- from earlier on

share_since : (to : OpenedVault) (planned : Planned) (drawn : List ℕ) (v x w : View) → StaysTidy (format_of to.vault) (under to.root v) (under to.root x) → SharesPlace to planned drawn x w → SharesPlace to planned drawn v w
share_since to planned drawn v x w tidy one = record {
  good = one.good;
  tidy = λ at is. one.tidy at (tidy at is);
  front = one.front;
  name = one.name;
  is = one.is;
  dir = one.dir;
  entered = one.entered;
  missing = one.missing;
  item = one.item;
  kind = one.kind;
  place = one.place;
  taken = one.taken;
  shares = λ is. one.shares (tidy one.place is);
}

pub shares_before : (Is More : View → Type 0) (to : OpenedVault) (work : Path) (items more : List Planned) (r s s' : Option ByteStream) (t u w : Option Told) → IfSeen t (λ v. (x : View) × IsSeen u x) → Stays More Is t u
    → ((v x : View) → IsSeen t v → IsSeen u x → More v → LoadsAlike (under to.root v) (under to.root x) × StaysTidy (format_of to.vault) (under to.root v) (under to.root x)) → ((item : Planned) → Contains items item → Contains more item)
    → Compose → IfSeen t (λ v. (xs : List ℕ) × Draws r s xs) → SharesFrom Is to work items s s' u w → SharesFrom More to work more r s' t w
shares_before Is More to work items more r s s' t u w later stays alike within composed drew shares v is given =
    let x : (x : View) × IsSeen u x = later v is in
    let one : OneShares to work items x.0 s s' w = shares x.0 x.1 (stays v x.0 is x.1 given) in
    let before : (xs : List ℕ) × Draws r s xs = drew v is in
    let kept : LoadsAlike (under to.root v) (under to.root x.0) × StaysTidy (format_of to.vault) (under to.root v) (under to.root x.0) = alike v x.0 is x.1 given in
    record {
      item = one.item;
      among = within one.item one.among;
      earlier = before.0 ++ one.earlier;
      drawn = one.drawn;
      were_drawn = subst (Draws r s') (sym (append_assoc before.0 one.earlier one.drawn)) (composed r s s' before.0 (one.earlier ++ one.drawn) before.1 one.were_drawn);
      moment = one.moment;
      seen = one.seen;
      stage = one.stage;
      loads = λ pass vault opens. one.loads pass vault (kept.0 pass vault opens);
      shares = share_since to one.item one.drawn v x.0 one.moment kept.1 one.shares;
    }

pub in_tree_since : (rule : NameMap) (from to work : Path) (pass pass' : List ℕ) (s s' : Option ByteStream) (t u w : Option Told) → IfSeen t (λ v. IsSeen u v) → SharesInTree rule from to work pass pass' s s' u w → SharesInTree rule from to work pass pass' s s' t w
in_tree_since rule from to work pass pass' s s' t u w known h = record {
  source = h.source;
  target = h.target;
  opens_source = λ v is. h.opens_source v (known v is);
  opens_target = λ v is. h.opens_target v (known v is);
  shares = λ v is. h.shares v (known v is);
}

pub as_told_since : (work : Path) (pass pass' : List ℕ) (s s' : Option ByteStream) (t u w : Option Told) → IfSeen t (λ v. IsSeen u v) → (v : View) → SharesAsTold work pass pass' s s' u w v → SharesAsTold work pass pass' s s' t w v
as_told_since work pass pass' s s' t u w known v h = record {
  journal = h.journal;
  is = h.is;
  stands = h.stands;
  shares = in_tree_since h.journal.names h.journal.source h.journal.target work pass pass' s s' t u w known h.shares;
}

-- ---- one item

no_item : FilesAreThere → (vault : Vault) (u : View) (path : plain.Path) → tree (format_of vault) u path ≡ NoItem → HasNoItem (standing (format_of vault) u path)
unfolding opened
no_item files vault u path none = by (standing (format_of vault) u path) refl none
  where
    by : (s : Standing) → standing (format_of vault) u path ≡ s → opens.opened_at (format_of vault) u s ≡ NoItem → HasNoItem s
    by Absent e n = tt
    by (Strange at) e n = tt
    by (Dir at directory) e n = cc n
    by (File at) e n =
        let there = files vault u path at e in
        absurd (content_opens (format_of vault).content there.0 (ap (λ x. opened_file (format_of vault).content (file_bytes x)) (sym there.1) ∙ n))

-- the last name of a path of names is a name
last_name : (front : plain.Path) (name : List ℕ) → IsTrue (list_all is_name (front ++ name ∷ [])) → IsTrue (is_name name)
last_name [] name named = by (is_name name) named
  where
    by : (b : Bool) → (b && true) ≡ true → b ≡ true
    by true is = refl
    by false is = cc is
last_name (a ∷ front) name named = last_name front name (by (is_name a) named)
  where
    by : (b : Bool) → (b && list_all is_name (front ++ name ∷ [])) ≡ true → list_all is_name (front ++ name ∷ []) ≡ true
    by true is = is
    by false is = cc is

module _ (behind : StandBehind) (files : FilesAreThere) (leads : EnteredLeads) (rule : NameMap) (from to : OpenedVault) (laws : KeepsVaults (format_of to.vault)) (work : Path) (planned : Planned)
    (item : NewItem) (ending : Ending) (drawn : List ℕ) (s s' : Option ByteStream) (were_drawn : Draws s s' drawn) (t u : Option Told) (named : IsTrue (list_all is_name planned.path)) (kind : IsMadeFor planned.node item) where
  -- nothing is changed then
  unchanged : (at : Path) → MakesAt New to work planned.path item ending drawn t u (Err (put.Taken at)) → u ≡ t
  unchanged at made = elim (base_or_child planned.path) [
    | inl root ↦ (made.root root).0
    | inr below ↦ by (made.named below.0 below.1 below.2).tested
  ]
    where
      by : IsOfMaking (put.Taken at) ⊎ (u ≡ t) → u ≡ t
      by (inl never) = absurd never
      by (inr same) = same

  taken_shares : (at : Path) → MakesAt New to work planned.path item ending drawn t u (Err (put.Taken at)) → IfSeen t (λ v. Lacks rule from to planned v → SharesPlace to planned drawn v v)
  taken_shares at made v is l = elim (base_or_child planned.path) [
    | inl root ↦ absurd (no_directory (sym (root_directory (format_of to.vault) (under to.root v)) ∙ ap (tree_at to v) (sym root) ∙ l.lacks))
    | inr below ↦ shares below.0 below.1 below.2 ((made.named below.0 below.1 below.2).answer v is)
  ]
    where
      no_directory : opens.Directory ≢ NoItem
      no_directory e = cc e

      shares : (front : plain.Path) (name : List ℕ) → planned.path ≡ front ++ name ∷ []
          → Answers (record { vault = to; work = work; front = front; name = name; item = item }) drawn ending (under to.root v) (Err (put.Taken at)) → SharesPlace to planned drawn v v
      shares front name path a = record {
        good = l.copying.target;
        tidy = λ place tidy. tidy;
        front = front;
        name = name;
        is = path;
        dir = a.2.dir;
        entered = a.2.there.entered;
        missing = missing;
        item = item;
        kind = kind;
        place = a.0;
        taken = a.2.is;
        shares = λ tidy own.
            laws.free (under to.root v) front a.2.dir name item drawn a.0 l.copying.target.clean way
            (last_name front name (subst (λ p. IsTrue (list_all is_name p)) path named)) missing own tidy a.2.is;
      }
        where
          way : Leads (format_of to.vault) (under to.root v) front a.2.dir
          way = (leads (format_of to.vault) (under to.root v) front a.2.dir).0 a.2.there.entered

          missing : HasNoItem (standing_in (format_of to.vault) (under to.root v) a.2.dir name)
          missing = subst HasNoItem (behind (format_of to.vault) (under to.root v) front a.2.dir name way)
              (no_item files to.vault (under to.root v) (front ++ name ∷ []) (subst (λ p. tree_at to v p ≡ NoItem) path l.lacks))

  pub item_stops : IfSeen t (λ v. IsReady v work) → (why : PutFault) → MakesAt New to work planned.path item ending drawn t u (Err why) → StopsFor (SharesFrom (Lacks rule from to planned) to work (planned ∷ []) s s' t u) (of_put why)
  item_stops ready why made = put_stops (SharesFrom (Lacks rule from to planned) to work (planned ∷ []) s s' t u) why
      (λ at same v is l.
      let taken : MakesAt New to work planned.path item ending drawn t u (Err (put.Taken at)) = subst (λ (y : PutFault). MakesAt New to work planned.path item ending drawn t u (Err y)) same made in
      record {
        item = planned;
        among = (0, omega arith, refl);
        earlier = [];
        drawn = drawn;
        were_drawn = were_drawn;
        moment = v;
        seen = subst (λ x. IsSeen x v) (sym (unchanged at taken)) is;
        stage = ready v is;
        loads = λ pass vault opens. opens;
        shares = taken_shares at taken v is l;
      })

-- ---- one after the other

nothing_else : (o : Opened) → (o ≢ NoItem → ⊥) → o ≡ NoItem
nothing_else NoItem some = refl
nothing_else opens.Directory some = absurd (some (λ e. cc e))
nothing_else (opens.Content bytes) some = absurd (some (λ e. cc e))
nothing_else (opens.Broken chunks fault) some = absurd (some (λ e. cc e))

pub filled_as : (rule : NameMap) (from to : OpenedVault) (there : List Planned) (v w : View) → under from.root w ≡ under from.root v → under to.root w ≡ under to.root v → IsFilled rule from to there v → IsFilled rule from to there w
filled_as rule from to there v w same_from same_to h = (
  copied_as rule from to there v w same_from same_to h.0,
  λ path named some. h.1 path named (subst (λ x. tree (format_of to.vault) x path ≢ NoItem) same_to some),
)

pub none_filled : (to : OpenedVault) (there : List Planned) (v w : View) → w ≡ v → HasOnly to there v → Fills to (there ++ []) v w
none_filled to there v w same h = subst (λ y. Fills to (there ++ []) v y) (sym same) (record {
  only = subst (λ xs. HasOnly to xs v) (sym (append-nil there)) h;
  tidy = λ at is. is;
  loads = λ pass vault opens. opens;
})

pub one_filled : (rule : NameMap) (from to : OpenedVault) (there items : List Planned) (k : ℕ) (item : Planned) (x v w : View) → k < length items → item ≡ get_or items k item → Fills to (there ++ take k items) x v
    → Copies rule from to item v w → Fills to (there ++ take (k + 1) items) x w
one_filled rule from to there items k item x v w inside at h copies = record {
  only = subst (λ xs. HasOnly to (there ++ xs) w) (ap (λ x. take k items ++ x ∷ []) at ∙ sym (take_more items k item inside)) (λ path named some. elim (copies.gains path some) [
    | inl same ↦ (item, Contains-append_right there (take k items ++ item ∷ []) item (Contains-append_right (take k items) (item ∷ []) item (0, omega arith, refl)), sym same)
    | inr was ↦ let y : (y : Planned) × Contains (there ++ take k items) y × (y.path ≡ path) = h.only path named was in
        (y.0, subst (λ xs. Contains xs y.0) (append_assoc there (take k items) (item ∷ [])) (Contains-append_left (there ++ take k items) (item ∷ []) y.0 y.1), y.2)
  ]);
  tidy = λ place is. copies.tidy place (h.tidy place is);
  loads = λ pass vault opens. copies.loads pass vault (h.loads pass vault opens);
}

-- where an item of the first ones is
in_take : (xs : List Planned) (k : ℕ) (x : Planned) → Contains (take k xs) x → (j : ℕ) × (j < k) × (j < length xs) × (get_or xs j x ≡ x)
in_take xs zero x c = absurd (omega (arith, c.1))
in_take [] (suc k) x c = absurd (omega (arith, c.1))
in_take (y ∷ xs) (suc k) x (zero, lt, at) = (0, omega arith, omega arith, at)
in_take (y ∷ xs) (suc k) x (suc j, lt, at) = let c = in_take xs k x (j, omega (arith, lt), at) in (suc c.0, omega (arith, c.1), omega (arith, c.2), c.3)

-- the next item isn't there yet, where none of those at first has its path
pub next_lacks : (rule : NameMap) (from to : OpenedVault) (there items : List Planned) (k : ℕ) (item : Planned) (v : View) → TellsMapped rule (tree_at from v) items → k < length items → item ≡ get_or items k item
    → HasCopied rule from to (there ++ take k items) v → HasOnly to (there ++ take k items) v → LacksOther rule from to there item v
next_lacks rule from to there items k item v tells inside at copied only = record { copying = copied.copying; lacks = λ other. nothing_else (tree_at to v item.path) (lacks other) }
  where
    source : ComesFrom rule (tree_at from v) item
    source = comes_from rule (tree_at from v) items item tells (k, inside, sym at)

    named : item.path ≢ []
    named root = by source.path source.named (source.comes ∙ root)
      where
        by : (path : plain.Path) → path ≢ [] → mapped_path rule path ≡ [] → ⊥
        by [] some maps = some refl
        by (a ∷ path) some maps = cc maps

    never_less : Equal ≢ Less
    never_less e = cc e

    not_both : true ≢ false
    not_both e = cc e

    earlier : (x : Planned) → Contains (take k items) x → x.path ≡ item.path → ⊥
    earlier x among same_path =
        let j : (j : ℕ) × (j < k) × (j < length items) × (get_or items j x ≡ x) = in_take items k x among in
        let less : path_cmp (get_or items j.0 item).path (get_or items k item).path ≡ Less = tells.mapped.ordered j.0 k item j.1 inside in
        let same : (get_or items j.0 item).path ≡ item.path = ap (λ (z : Planned). z.path) (sym (get_or_default items j.0 x item j.2) ∙ j.3) ∙ same_path in
        never_less (sym (tied_itself paths_total item.path) ∙ ap (λ p. path_cmp p item.path) (sym same) ∙ ap (λ (z : Planned). path_cmp (get_or items j.0 item).path z.path) at ∙ less)

    lacks : is_there there item ≡ false → tree_at to v item.path ≢ NoItem → ⊥
    lacks other some =
        let x : (x : Planned) × Contains (there ++ take k items) x × (x.path ≡ item.path) = only item.path named some in
        elim (Contains-append_cases there (take k items) x.0 x.1) [
          | inl before ↦ not_both (sym (there_where item there (x.0, before, x.2)) ∙ other)
          | inr among ↦ earlier x.0 among x.2
        ]

-- where none has it, it isn't there
pub lacks_where : (rule : NameMap) (from to : OpenedVault) (there : List Planned) (item : Planned) (v : View) → is_there there item ≡ false → LacksOther rule from to there item v → Lacks rule from to item v
lacks_where rule from to there item v other h = record { copying = h.copying; lacks = h.lacks other }

-- ---- of the vaults

pub source_shares : TellsTree → (rule : NameMap) (from to : OpenedVault) (work : Path) (items mapped there : List Planned) (s s' : Option ByteStream) (t u : Option Told) → MayBegin rule from to there t → AreItemsToMove rule t from items mapped
    → IsWalked t to there → SharesFrom (IsFilled rule from to there) to work mapped s s' t u → SharesSeen rule from to work s s' t u
source_shares tells rule from to work items mapped there s s' t u may walked walked_to shares v is own = record {
  items = mapped;
  items_are = record { own = items; are = walked.walked.plan v is own.source; same = walked.same };
  shares = shares v is (may v is own, λ path named some. planned_at (tree_at to v) there (tells v (side_of to there) (walked_to.plan v is own.target)) path named some);
}

pub share_in_tree : (rule : NameMap) (from to work : Path) (pass pass' : List ℕ) (source target : OpenedVault) (s s' : Option ByteStream) (t u : Option Told) → source.root ≡ from → target.root ≡ to
    → IfSeen t (λ v. IsVault (under from v) pass source.vault) → IfSeen t (λ v. IsVault (under to v) pass' target.vault) → SharesSeen rule source target work s s' t u → SharesInTree rule from to work pass pass' s s' t u
share_in_tree rule from to work pass pass' source target s s' t u at_from at_to opens opens_to shares = record {
  source = source.vault;
  target = target.vault;
  opens_source = opens;
  opens_target = opens_to;
  shares = subst₂ (λ p q. SharesSeen rule (opened_in p source.vault) (opened_in q target.vault) work s s' t u) at_from at_to shares;
}
