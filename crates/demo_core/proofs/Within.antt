-- A vault that has items of the demonstration passes no limit.
use Rattle.std.proofs.Common.{◌≡◌, ◌≢◌, ◌∙◌, ◌+◌, ◌/◌, ◌%◌, ◌≤◌, ◌<◌, ℕ, zero, suc, Bool, true, false, cond, nat_eq, List, [], ◌∷◌, ◌++◌, length, map, get_or, AllPairs, Some, refl, sym, ap, subst, arith}
use Rattle.std.specs.List.{IsDistinct}
use Rattle.std.proofs.lemmas.Bool.Decides.{nat_tests}
use Rattle.std.proofs.lemmas.List.{length-append, length-map}
use Rattle.std.proofs.lemmas.List.Elements.{Contains-get_or}
use Rattle.std.proofs.lemmas.Map.Made.{IsDistinct-from_AllPairs}
use Rattle.folder_spec.specs.Path as folder
use Rattle.folder_spec.specs.Seen.{ShowsFile}
use Rattle.folder_spec.specs.View.{View}
use Rattle.plain_tree.specs.Names.{Path}
use Rattle.plain_tree.specs.declared.NodeKind.{NodeKind}
use Rattle.vault_spec.proofs.Endings.{content_opens}
use Rattle.vault_spec.proofs.Mapped.{all_pairs_mapped, mapped_from}
use Rattle.vault_spec.specs.Format.{Format, file_bytes}
use Rattle.vault_spec.specs.Listing.{node_of}
use Rattle.vault_spec.specs.Opens as opens
use Rattle.vault_spec.specs.Opens.{NoItem, opened, opened_at, opened_file, tree}
use Rattle.vault_spec.specs.Plan.{Planned}
use Rattle.vault_spec.specs.Standing.{Absent, Dir, File, Standing, Strange, standing, standing_in}
use Rattle.vault_walk.specs.Survey.{HasTooMany, IsNear, IsTooDeep}
use Rattle.vault_walk.specs.Surveyed.{IsWithin}
use Rattle.vault_walk.proofs.Walks.{StandBehind}
use Rattle.demo_core.specs.Demonstration.{directory_name, directory_path, file_name, is_directory, path_of}
use Rattle.demo_core.specs.Tree.{HasItems}
use Rattle.demo_core.proofs.Numbered.{decides, fewer, number_at, some_of_first}

-- ---- how deep the items are

length-directory : (k : ℕ) → length (directory_path k) ≡ k % 4 + 1
length-directory zero = omega arith
length-directory (suc k) = by (nat_eq (suc k % 4) 0) refl (length-directory k)
  where
    by : (b : Bool) → nat_eq (suc k % 4) 0 ≡ b → length (directory_path k) ≡ k % 4 + 1 → length (cond b [] (directory_path k) ++ directory_name (suc k) ∷ []) ≡ suc k % 4 + 1
    by true is above = let none : suc k % 4 ≡ 0 = grind (arith, nat_tests, is) in omega (arith, none)
    by false is above =
        let some : suc k % 4 ≢ 0 = grind (arith, nat_tests, is) in
        length-append (directory_path k) (directory_name (suc k) ∷ []) ∙ omega (arith, some, above)

few_names : (number : ℕ) → length (path_of number) ≤ 5
few_names number = by (is_directory number)
  where
    by : (b : Bool) → length (cond b (directory_path (number / 10)) (directory_path (number / 10) ++ file_name number ∷ [])) ≤ 5
    by true = omega (arith, length-directory (number / 10))
    by false = omega (arith, length-directory (number / 10), length-append (directory_path (number / 10)) (file_name number ∷ []))

-- ---- what stands opens

item_opens : (f : Format) (v : View) (s : Standing) (node : NodeKind) → ((at : folder.Path) → s ≡ File at → ShowsFile v at) → node_of s ≡ Some node → opened_at f v s ≢ NoItem
item_opens f v Absent node has is = λ e. cc is
item_opens f v (Strange at) node has is = λ e. cc is
item_opens f v (Dir at directory) node has is = λ e. cc e
item_opens f v (File at) node has is =
    let there : ShowsFile v at = has at refl in
    λ e. content_opens f.content there.0 (ap (λ x. opened_file f.content (file_bytes x)) (sym there.1) ∙ e)

-- ---- no limit is passed

module _ (behind : StandBehind) (f : Format) (v : View) (shows : (path : Path) (at : folder.Path) → standing f v path ≡ File at → ShowsFile v at)
    (seed count : ℕ) (few : count ≤ 2000) (has : HasItems seed count (tree f v)) where
  near_opens : (item : Planned) → IsNear f v item → tree f v item.path ≢ NoItem
  unfolding opened
  near_opens item near =
      let stands : standing f v item.path ≡ standing_in f v near.spot.dir near.spot.name = ap (standing f v) near.path.is ∙ behind f v near.path.front near.spot.dir near.spot.name near.path.leads in
      item_opens f v (standing f v item.path) near.is.node (shows item.path) (ap node_of stands ∙ near.is.stands)

  near_below : (item : Planned) → IsNear f v item → item.path ≢ []
  near_below item near none = ends near.path.front (sym near.path.is ∙ none)
    where
      ends : (front : Path) → front ++ near.spot.name ∷ [] ≢ []
      ends [] e = cc e
      ends (a ∷ front) e = cc e

  not_too_many : ¬ HasTooMany f v
  not_too_many many =
      let paths : List Path = map (λ (item : Planned). item.path) many.items in
      let distinct : IsDistinct _ paths = IsDistinct-from_AllPairs decides paths (all_pairs_mapped (λ p q. p ≢ q) (λ (item : Planned). item.path) many.items apart) in
      let fits = fewer paths count distinct (λ p there. let item = mapped_from (λ (i : Planned). i.path) many.items p there in
      let near = many.near item.0 item.1 in
      some_of_first count p (subst (λ q. (number : ℕ) × (number < count) × (q ≡ path_of number)) item.2 (number_at seed count (tree f v) has item.0.path (near_below item.0 near) (near_opens item.0 near)))) in
      omega (arith, few, fits, many.more, length-map many.items (λ (item : Planned). item.path))
    where
      apart : AllPairs (λ (x y : Planned). x.path ≢ y.path) many.items
      apart i j d before less same =
          let x = get_or many.items i d in
          let near : IsNear f v x = many.near x (Contains-get_or many.items i d (omega (arith, before, less))) in
          many.once i j d before less near.spot near.path (record { front = near.path.front; is = sym same ∙ near.path.is; leads = near.path.leads })

  not_too_deep : ¬ IsTooDeep f v
  unfolding opened
  not_too_deep too =
      let path : Path = too.deep.path in
      let size : length path ≡ 64 = too.deep.size in
      let opens_there : tree f v path ≢ NoItem = λ none. let never : opens.Directory ≡ NoItem = sym (ap (opened_at f v) too.deep.leads.stands) ∙ none in cc never in
      let some : path ≢ [] = λ none. let zero_long : 64 ≡ 0 = sym size ∙ ap length none in cc zero_long in
      let item = number_at seed count (tree f v) has path some opens_there in
      let long : length (path_of item.0) ≡ 64 = sym (ap length item.2) ∙ size in
      omega (arith, long, few_names item.0)

  pub within : IsWithin f v
  within = record { items = not_too_many; depth = not_too_deep }
