-- An entry that is of a name: what stands under that, and what is found at the entry and below it.
use Rattle.std.proofs.Common.{◌≡◌, ◌∷◌, [], ℕ, Bool, true, false, cond, List, Some, Err, is_some, inl, inr, refl, sym, ap, ◌∙◌, subst, append-nil}
use Rattle.folder_spec.specs.Path.{Part, Path, child}
use Rattle.folder_spec.specs.Seen.{under}
use Rattle.folder_spec.specs.View.{View}
use Rattle.plain_tree.specs.Names.{is_name}
use Rattle.plain_tree.specs.declared.NodeKind.{NodeKind}
use Rattle.plain_tree.specs.declared.NodeKind.TheVariants as node
use Rattle.vault_spec.specs.Findings.{IsEntryOf, number_of}
use Rattle.vault_spec.specs.Format.{Format, Directory, Item, Nothing, FileItem, DirectoryItem, NoItem, key_of}
use Rattle.vault_spec.specs.Listing.{node_of}
use Rattle.vault_spec.specs.Standing.{Absent, Dir, directory_with, entry_at, holds_full, item_at, standing_in, standing_of}
use Rattle.vault_spec.specs.declared.Finding.{Finding}
use Rattle.vault_spec.specs.declared.Finding.TheVariants as is
use Rattle.vault_spec.specs.declared.Lack.{Lack}
use Rattle.vault_spec.specs.declared.Lack.TheVariants as lacks
use Rattle.vault_read.specs.declared.listing.NameAt.{NameAt}
use Rattle.vault_walk.specs.Here.{IsFindingHere, IsInsideHere, IsLockedHere, IsNoItemHere, IsUnnamedHere}
use Rattle.vault_walk.specs.Report.{IsBelow, IsExtraIn, IsMainFound, IsNamed, is_main}
use Rattle.vault_walk.specs.declared.found.Found.{Found}
use Rattle.vault_walk.proofs.Finds.{FindsRight, has_odd, is_odd, odd_here}
use Rattle.vault_walk.proofs.Places.{one_below, one_inside}

-- what stands under a name with a right entry
pub stands_as : (f : Format) (v : View) (dir : Directory) (name : List ℕ) (at : Path) (item : Item) → is_name name ≡ true → holds_full f v dir (f.stored dir.key name) ≡ true
    → entry_at f dir name ≡ at → item_at f v dir (f.stored dir.key name) ≡ item → standing_in f v dir name ≡ standing_of f v at true item
unfolding standing_in
stands_as f v dir name at item named full place is =
    let s = f.stored dir.key name in
    ap (λ b. cond b (standing_of f v (entry_at f dir name) (holds_full f v dir s) (item_at f v dir s)) Absent) named
    ∙ ap (λ b. standing_of f v (entry_at f dir name) b (item_at f v dir s)) full
    ∙ ap (λ p. standing_of f v p true (item_at f v dir s)) place
    ∙ ap (standing_of f v at true) is

strange : (f : Format) (v : View) (at : Path) (item : Item) (node : NodeKind) → node_of (standing_of f v at false item) ≡ Some node → ⊥
strange f v at Nothing node e = cc
strange f v at (FileItem rest) node e = cc
strange f v at DirectoryItem node e = cc
strange f v at (NoItem finding) node e = cc

-- where an item stands under a name, the entry is that of the name
pub item_named : (f : Format) (v : View) (dir : Directory) (name : List ℕ) (node : NodeKind) → node_of (standing_in f v dir name) ≡ Some node → IsEntryOf f v dir (f.stored dir.key name).name name
unfolding standing_in
item_named f v dir name node e = by_tests (is_name name) refl (holds_full f v dir (f.stored dir.key name)) refl e
  where
    by_tests : (a : Bool) → is_name name ≡ a → (b : Bool) → holds_full f v dir (f.stored dir.key name) ≡ b
        → node_of (cond a (standing_of f v (child dir.folder (f.stored dir.key name).name) b (item_at f v dir (f.stored dir.key name))) Absent) ≡ Some node
        → IsEntryOf f v dir (f.stored dir.key name).name name
    by_tests true named true full e = record { named = named; stores = refl; full = full }
    by_tests true named false full e = absurd (strange f v (child dir.folder (f.stored dir.key name).name) (item_at f v dir (f.stored dir.key name)) node e)
    by_tests false named b full e = cc

abbrev pub finding_of : Lack → Finding
finding_of lacks.NoDirKey = is.NoDirKey
finding_of lacks.NoFolder = is.NoFolder

-- what is found at an entry that is this item, and below it
pub data IsFoundOf (f : Format) (v : View) (at : Path) (long : Bool) (item : Item) (x : Found) : Type 0 where
  Odd : (finding : Finding) → item ≡ NoItem finding → x.at ≡ at → x.number ≡ number_of finding → IsFoundOf f v at long item x
  Locked : (lack : Lack) → item ≡ DirectoryItem → directory_with f v at (key_of f (under at v)) ≡ Err lack → x.at ≡ at → x.number ≡ number_of (finding_of lack) → IsFoundOf f v at long item x
  Inside : IsExtraIn f v at long item x → IsFoundOf f v at long item x

lock_of : (f : Format) (v : View) (at : Path) (item : Item) (place : Path) (lack : Lack) → standing_of f v at true item ≡ Dir place (Err lack)
    → (item ≡ DirectoryItem) × (directory_with f v at (key_of f (under at v)) ≡ Err lack) × (at ≡ place)
lock_of f v at Nothing place lack e = cc
lock_of f v at (FileItem rest) place lack e = cc
lock_of f v at DirectoryItem place lack e =
    let lead : directory_with f v at (key_of f (under at v)) ≡ Err lack = cc in
    let same : at ≡ place = cc in (refl, lead, same)
lock_of f v at (NoItem finding) place lack e = cc

-- where a directory item stands
pub standing_place : (f : Format) (v : View) (dir : Directory) (name : List ℕ) (at : Path) (lack : Lack) → standing_in f v dir name ≡ Dir at (Err lack) → child dir.folder (f.stored dir.key name).name ≡ at
standing_place f v dir name at lack stands =
    let of = item_named f v dir name node.Dir (ap node_of stands) in
    (lock_of f v (entry_at f dir name) (item_at f v dir (f.stored dir.key name)) at lack
    (sym (stands_as f v dir name (entry_at f dir name) (item_at f v dir (f.stored dir.key name)) of.named of.full refl refl) ∙ stands)).2

module _ (f : Format) (right : FindsRight f) (v : View) (dir : Directory) (entry : Part) (at : Path) (named : NameAt) (place : at ≡ child dir.folder entry) (its : IsNamed f v dir entry named) where
  entry_is : entry_at f dir named.name ≡ at
  entry_is = ap (child dir.folder) its.of.stores ∙ sym place

  pub item_is : item_at f v dir (f.stored dir.key named.name) ≡ f.item named.long (under at v)
  item_is = ap (λ b. f.item b (under (entry_at f dir named.name) v)) (sym its.long) ∙ ap (λ p. f.item named.long (under p v)) entry_is

  its_own : IsEntryOf f v dir (f.stored dir.key named.name).name named.name
  its_own = record { named = its.of.named; stores = refl; full = its.of.full }

  pub stands_here : standing_in f v dir named.name ≡ standing_of f v at true (f.item named.long (under at v))
  stands_here = stands_as f v dir named.name at (f.item named.long (under at v)) its.of.named its.of.full entry_is item_is

  -- another name of the entry is this
  pub name_here : (name : List ℕ) → IsEntryOf f v dir (f.stored dir.key name).name name → (f.stored dir.key name).name ≡ entry → name ≡ named.name
  name_here name of same = its.only name (subst (λ e. IsEntryOf f v dir e name) same of)

  below_here : (x : Path) (other : Part) → x ≡ child dir.folder other → IsBelow (child dir.folder entry) x → other ≡ entry
  below_here x other is_at below = one_below dir.folder other entry below.0 (sym is_at ∙ below.1)

  never_unnamed : (finding : Finding) (x : Found) → IsUnnamedHere f v dir finding x.at → IsBelow (child dir.folder entry) x.at → ⊥
  never_unnamed finding x u below =
      u.unnamed named.name (subst (λ e. IsEntryOf f v dir e named.name) (sym (below_here x.at u.entry u.place below)) its.of)

  odd_of : (finding : Finding) (x : Found) → x.number ≡ number_of finding → IsNoItemHere f v dir finding x.at → IsBelow (child dir.folder entry) x.at → IsFoundOf f v at named.long (f.item named.long (under at v)) x
  odd_of finding x number u below =
      let same = name_here u.name u.of (below_here x.at (f.stored dir.key u.name).name u.place below) in
      Odd finding (sym item_is ∙ ap (λ n. item_at f v dir (f.stored dir.key n)) (sym same) ∙ u.is) (u.place ∙ ap (entry_at f dir) same ∙ entry_is) number

  locked_of : (lack : Lack) (x : Found) → x.number ≡ number_of (finding_of lack) → IsLockedHere f v dir lack x.at → IsBelow (child dir.folder entry) x.at → IsFoundOf f v at named.long (f.item named.long (under at v)) x
  locked_of lack x number u below =
      let of = item_named f v dir u.name node.Dir (ap node_of u.stands) in
      let lock = lock_of f v (entry_at f dir u.name) (item_at f v dir (f.stored dir.key u.name)) x.at lack
      (sym (stands_as f v dir u.name (entry_at f dir u.name) (item_at f v dir (f.stored dir.key u.name)) of.named of.full refl refl) ∙ u.stands) in
      let same = name_here u.name of (below_here x.at (f.stored dir.key u.name).name (sym lock.2) below) in
      let here : entry_at f dir u.name ≡ at = ap (entry_at f dir) same ∙ entry_is in
      Locked lack (sym item_is ∙ ap (λ n. item_at f v dir (f.stored dir.key n)) (sym same) ∙ lock.0) (ap (λ p. directory_with f v p (key_of f (under p v))) (sym here) ∙ lock.1) (sym lock.2 ∙ here) number

  inside_of : (x : Found) → x.number ≡ number_of is.ExtraEntry → IsInsideHere f v dir x.at → IsBelow (child dir.folder entry) x.at → IsFoundOf f v at named.long (f.item named.long (under at v)) x
  inside_of x number u below =
      let same = name_here u.name u.of (one_inside dir.folder (f.stored dir.key u.name).name entry u.entry below.0 (sym u.place ∙ below.1)) in
      Inside (record {
        number = number;
        entry = u.entry;
        place = u.place ∙ ap (λ n. child (entry_at f dir n) u.entry) same ∙ ap (λ p. child p u.entry) entry_is;
        extra = ap (λ i. f.inner_role named.long i u.entry (v x.at)) (sym item_is)
            ∙ ap (λ b. f.inner_role b (item_at f v dir (f.stored dir.key named.name)) u.entry (v x.at)) its.long
            ∙ ap (λ n. f.inner_role (is_some (f.stored dir.key n).full) (item_at f v dir (f.stored dir.key n)) u.entry (v x.at)) (sym same)
            ∙ u.extra;
      })

  found_by_finding : (finding : Finding) (x : Found) → x.number ≡ number_of finding → is_main finding ≡ true → IsFindingHere f v dir finding x.at → IsBelow (child dir.folder entry) x.at
      → IsFoundOf f v at named.long (f.item named.long (under at v)) x
  found_by_finding is.BadStoredName x number main here below = absurd (never_unnamed is.BadStoredName x here below)
  found_by_finding is.NoDirKey x number main here below = locked_of lacks.NoDirKey x number here below
  found_by_finding is.LongNameLost x number main here below = absurd (never_unnamed is.LongNameLost x here below)
  found_by_finding is.OrphanLongName x number main here below = cc
  found_by_finding is.DirIdTwice x number main here below = absurd here
  found_by_finding is.NoFolder x number main here below = locked_of lacks.NoFolder x number here below
  found_by_finding is.OrphanFolder x number main here below = absurd here
  found_by_finding is.SymlinkFound x number main here below = odd_of is.SymlinkFound x number here below
  found_by_finding is.WrongKind x number main (inl here) below = absurd (never_unnamed is.WrongKind x here below)
  found_by_finding is.WrongKind x number main (inr here) below = odd_of is.WrongKind x number here below
  found_by_finding is.ExtraEntry x number main here below = inside_of x number here below
  found_by_finding is.TwoKinds x number main here below = odd_of is.TwoKinds x number here below
  found_by_finding is.HeaderDamaged x number main here below = cc
  found_by_finding is.ChunkDamaged x number main here below = cc
  found_by_finding is.EmptyOrphan x number main here below = cc

  pub named_on : (x : Found) → IsMainFound f v dir entry x → IsFoundOf f v at named.long (f.item named.long (under at v)) x
  named_on x m = found_by_finding m.finding x m.number m.main m.here m.below

  at_below : (x : Path) → x ≡ at → IsBelow (child dir.folder entry) x
  at_below x e = ([], e ∙ place ∙ sym (append-nil (child dir.folder entry)))

  odd_is_main : (finding : Finding) → is_odd finding ≡ true → is_main finding ≡ true
  odd_is_main is.SymlinkFound odd = refl
  odd_is_main is.WrongKind odd = refl
  odd_is_main is.TwoKinds odd = refl
  odd_is_main is.BadStoredName odd = refl
  odd_is_main is.NoDirKey odd = refl
  odd_is_main is.LongNameLost odd = refl
  odd_is_main is.OrphanLongName odd = cc
  odd_is_main is.DirIdTwice odd = refl
  odd_is_main is.NoFolder odd = refl
  odd_is_main is.OrphanFolder odd = refl
  odd_is_main is.ExtraEntry odd = refl
  odd_is_main is.HeaderDamaged odd = cc
  odd_is_main is.ChunkDamaged odd = cc
  odd_is_main is.EmptyOrphan odd = cc

  odd_back : (finding : Finding) (x : Found) → f.item named.long (under at v) ≡ NoItem finding → x.at ≡ at → x.number ≡ number_of finding → IsMainFound f v dir entry x
  odd_back finding x item x_at number =
      let odd : is_odd finding ≡ true = ap has_odd (sym item) ∙ right.odd named.long (under at v) in
      record {
        finding = finding;
        number = number;
        main = odd_is_main finding odd;
        here = odd_here f v dir finding x.at odd (record { name = named.name; of = its_own; place = x_at ∙ sym entry_is; is = item_is ∙ item });
        below = at_below x.at x_at;
      }

  locked_here : (lack : Lack) (x : Found) → f.item named.long (under at v) ≡ DirectoryItem → directory_with f v at (key_of f (under at v)) ≡ Err lack → x.at ≡ at → IsLockedHere f v dir lack x.at
  locked_here lack x item lead x_at = record {
    name = named.name;
    stands = stands_here ∙ ap (standing_of f v at true) item ∙ ap (Dir at) lead ∙ ap (λ p. Dir p (Err lack)) (sym x_at);
  }

  locked_back : (lack : Lack) (x : Found) → f.item named.long (under at v) ≡ DirectoryItem → directory_with f v at (key_of f (under at v)) ≡ Err lack → x.at ≡ at → x.number ≡ number_of (finding_of lack) → IsMainFound f v dir entry x
  locked_back lacks.NoDirKey x item lead x_at number =
      record { finding = is.NoDirKey; number = number; main = refl; here = locked_here lacks.NoDirKey x item lead x_at; below = at_below x.at x_at }
  locked_back lacks.NoFolder x item lead x_at number =
      record { finding = is.NoFolder; number = number; main = refl; here = locked_here lacks.NoFolder x item lead x_at; below = at_below x.at x_at }

  inside_back : (x : Found) → IsExtraIn f v at named.long (f.item named.long (under at v)) x → IsMainFound f v dir entry x
  inside_back x u = record {
    finding = is.ExtraEntry;
    number = u.number;
    main = refl;
    here = record {
      name = named.name;
      of = its_own;
      entry = u.entry;
      place = u.place ∙ ap (λ p. child p u.entry) (sym entry_is);
      extra = ap (λ b. f.inner_role b (item_at f v dir (f.stored dir.key named.name)) u.entry (v x.at)) (sym its.long)
          ∙ ap (λ i. f.inner_role named.long i u.entry (v x.at)) item_is
          ∙ u.extra;
    };
    below = (u.entry ∷ [], u.place ∙ ap (λ p. child p u.entry) place);
  }

  pub named_back : (x : Found) → IsFoundOf f v at named.long (f.item named.long (under at v)) x → IsMainFound f v dir entry x
  named_back x (Odd finding item x_at number) = odd_back finding x item x_at number
  named_back x (Locked lack item lead x_at number) = locked_back lack x item lead x_at number
  named_back x (Inside u) = inside_back x u
