-- That of two vaults that compare as the same each file is read to its end.
use Rattle.std.proofs.Common.{◌≡◌, ◌≢◌, ◌⊎◌, inl, inr, ◌++◌, ◌&&◌, ℕ, nat_eq, List, [], ◌∷◌, length, take, Bool, true, false, if◌then◌else◌, Option, Some, None, Contains, refl, sym, ap, ◌∙◌, subst, arith}
use Rattle.std.proofs.lemmas.List.{take_all}
use Rattle.std.specs.Cmp.Lexicographic.{bytes_decides}
use Rattle.std.specs.List.{starts_with}
use Rattle.std.specs.Str.{bytes_eq}
use Rattle.chunk_files.specs.Keys.{Keys}
use Rattle.chunk_files.specs.Reading.{Ending, Whole, Wanting, Faulty}
use Rattle.folder_spec.specs.Path.{Path}
use Rattle.folder_spec.specs.Seen.{under}
use Rattle.folder_spec.specs.View.{View}
use Rattle.plain_tree.specs.Names as plain
use Rattle.plain_tree.specs.declared.NodeKind.{NodeKind}
use Rattle.plain_tree.specs.declared.NodeKind.TheVariants as node
use Rattle.plain_tree.specs.declared.name_map.NameMap.{NameMap}
use Rattle.tree_match.proofs.HeldTrees.{HoldsEach, file_stands, found_with, held_each, none_further, planned}
use Rattle.tree_match.specs.Comparing.{Content, Is, Outcome, Stops, compared, content_at, is_cut}
use Rattle.tree_match.specs.Mapping.{mapped_item}
use Rattle.tree_match.specs.Matching.{content_held, first_further, held_as, held_by, item_with}
use Rattle.tree_match.specs.Trees.{IsMappedWalkOf, IsWalkOf, match_of, side_of}
use Rattle.tree_match.specs.declared.answer.Match.TheVariants.{Same}
use Rattle.vault_spec.proofs.Mapped.{contains_mapped}
use Rattle.vault_spec.specs.Alike.{place_of}
use Rattle.vault_spec.specs.Listing.{node_of}
use Rattle.vault_spec.specs.Opened.{OpenedVault}
use Rattle.vault_spec.specs.Plan.{IsPlanned, Planned}
use Rattle.vault_spec.specs.Standing.{File, standing}
use Rattle.vault_spec.specs.Vault.{format_of}
use Rattle.vault_walk.specs.Surveyed.{placed}
use Rattle.migrate_core.proofs.MappedItems.{mapped_among}

-- ---- two contents

whole_of : (ending : Ending) → is_cut ending ≡ false → ending ≡ Whole
whole_of Whole is = refl
whole_of Wanting is = cc is
whole_of (Faulty fault) is = cc is

begins_itself : (xs ys : List ℕ) → xs ≡ ys → starts_with nat_eq ys xs ≡ true
begins_itself xs ys same = subst (λ zs. starts_with nat_eq zs xs ≡ true) same ((bytes_decides xs (take (length xs) xs)).1 (sym (take_all (length xs) xs (omega arith))))

answer_is : (x y : Bool) → Is x ≡ Is y → x ≡ y
answer_is x y e = cc e

-- both are read to their ends
record AreWhole (one other : Content) : Type 0 where
  first : one.ending ≡ Whole
  second : other.ending ≡ Whole

both_whole : (one other : Content) → compared one other ≡ Is true → AreWhole one other
unfolding compared
both_whole one other is = by (is_cut one.ending) (starts_with nat_eq other.bytes one.bytes) (is_cut other.ending) (starts_with nat_eq one.bytes other.bytes) refl refl refl refl is
  where
    same : Is (bytes_eq one.bytes other.bytes) ≡ Is true → one.bytes ≡ other.bytes
    same e = (bytes_decides one.bytes other.bytes).0 (answer_is (bytes_eq one.bytes other.bytes) true e)

    clash : (b : Bool) → b ≡ true → b ≡ false → ⊥
    clash true is_true is_false = cc is_false
    clash false is_true is_false = cc is_true

    by : (cut begins cut' begins' : Bool) → is_cut one.ending ≡ cut → starts_with nat_eq other.bytes one.bytes ≡ begins → is_cut other.ending ≡ cut' → starts_with nat_eq one.bytes other.bytes ≡ begins'
        → (if cut && begins then Stops one.at one.ending else if cut' && begins' then Stops other.at other.ending else Is (bytes_eq one.bytes other.bytes)) ≡ Is true
        → AreWhole one other
    by true true cut' begins' c b c' b' e = cc e
    by true false true true c b c' b' e = cc e
    by true false true false c b c' b' e = absurd (clash (starts_with nat_eq other.bytes one.bytes) (begins_itself one.bytes other.bytes (same e)) b)
    by true false false begins' c b c' b' e = absurd (clash (starts_with nat_eq other.bytes one.bytes) (begins_itself one.bytes other.bytes (same e)) b)
    by false begins true true c b c' b' e = cc e
    by false begins true false c b c' b' e = absurd (clash (starts_with nat_eq one.bytes other.bytes) (begins_itself other.bytes one.bytes (sym (same e))) b')
    by false begins false begins' c b c' b' e = record { first = whole_of one.ending c; second = whole_of other.ending c' }

-- ---- two items

content_same : (outcome : Outcome Bool) → content_held outcome ≡ Is None → outcome ≡ Is true
content_same (Is true) e = refl
content_same (Is false) e = cc e
content_same (Stops at ending) e = cc e

-- both are files with the same content
record AreSameFiles (n m : NodeKind) (outcome : Outcome Bool) : Type 0 where
  one : n ≡ node.File
  other : m ≡ node.File
  same : outcome ≡ Is true

same_files : (n m : NodeKind) (outcome : Outcome Bool) → held_as n m outcome ≡ Is None → (n ≡ node.File) ⊎ (m ≡ node.File) → AreSameFiles n m outcome
same_files node.File node.File outcome held which = record { one = refl; other = refl; same = content_same outcome held }
same_files node.Dir node.File outcome held which = cc held
same_files node.File node.Dir outcome held which = cc held
same_files node.Dir node.Dir outcome held (inl file) = cc file
same_files node.Dir node.Dir outcome held (inr file) = cc file

-- ---- the files of a vault

-- the file at a plain path is in the vault's plan
in_walk : (a : OpenedVault) (items : List Planned) (v : View) → IsWalkOf v (side_of a items) → (path : plain.Path) (rest : Path) → standing (format_of a.vault) (under a.root v) path ≡ File rest
    → Contains items (record { path = path; node = node.File; at = a.root ++ rest })
in_walk a items v walk path rest stands =
    let item : Planned = record { path = path; node = node.File; at = rest } in
    subst (λ (xs : List Planned). Contains xs (placed a.root item)) (sym walk.items_are)
    (contains_mapped (placed a.root) walk.plan item ((walk.is.items item).1 (not_root path stands, record { node = ap node_of stands; place = ap place_of stands })))
  where
    not_root : (path : plain.Path) → standing (format_of a.vault) (under a.root v) path ≡ File rest → path ≢ []
    not_root [] stands root = cc stands
    not_root (name ∷ more) stands root = cc root

-- where a file of it is in the plan, that is where it stands
where_planned : (a : OpenedVault) (items : List Planned) (v : View) → IsWalkOf v (side_of a items) → (x : Planned) → Contains items x → x.node ≡ node.File → (rest : Path) → standing (format_of a.vault) (under a.root v) x.path ≡ File rest
    → x.at ≡ a.root ++ rest
where_planned a items v walk x among file rest stands = by (planned v (side_of a items) walk x among)
  where
    file_at : (p q : Path) → File p ≡ File q → p ≡ q
    file_at p q e = cc e

    by : (y : Planned) × (placed a.root y ≡ x) × IsPlanned (format_of a.vault) (under a.root v) y → x.at ≡ a.root ++ rest
    by p =
        let its : standing (format_of a.vault) (under a.root v) x.path ≡ File p.0.at =
        subst (λ q. standing (format_of a.vault) (under a.root v) q ≡ File p.0.at) (ap (λ (z : Planned). z.path) p.1)
        (file_stands (standing (format_of a.vault) (under a.root v) p.0.path) p.0.at (p.2.node ∙ ap (λ (z : Planned). Some z.node) p.1 ∙ ap Some file) p.2.place) in
        ap (λ (z : Planned). z.at) (sym p.1) ∙ ap (λ r. a.root ++ r) (file_at p.0.at rest (sym its ∙ stands))

-- an item of the one vault and that of the other with its path are files that are read to their ends
record AreReadWhole (keys keys_to : Keys) (v : View) (others : List Planned) (x : Planned) : Type 0 where
  other : Planned
  among : Contains others other
  path : other.path ≡ x.path
  file : x.node ≡ node.File
  other_file : other.node ≡ node.File
  whole : AreWhole (content_at keys v x.at) (content_at keys_to v other.at)

module _ (rule : NameMap) (from to : OpenedVault) (items others : List Planned) (v : View) (same : match_of v (side_of from items) (side_of to others) ≡ Is Same) where
  abbrev keys : Keys
  keys = (format_of from.vault).content

  abbrev keys_to : Keys
  keys_to = (format_of to.vault).content

  all : HoldsEach (λ item. held_by keys keys_to v item (item_with item.path others)) items (first_further items others) Same
  all = held_each (λ item. held_by keys keys_to v item (item_with item.path others)) (first_further items others) Same tt items same

  read_whole : (x : Planned) → Contains items x → ((other : Planned) → Contains others other → other.path ≡ x.path → (x.node ≡ node.File) ⊎ (other.node ≡ node.File)) → AreReadWhole keys keys_to v others x
  read_whole x among which = by (item_with x.path others) refl (all.each x among)
    where
      by : (found : Option Planned) → item_with x.path others ≡ found → held_by keys keys_to v x found ≡ Is None → AreReadWhole keys keys_to v others x
      by None e is = cc is
      by (Some y) e is =
          let found = found_with x.path others y e in
          let files = same_files x.node y.node (compared (content_at keys v x.at) (content_at keys_to v y.at)) is (which y found.0 found.1) in
          record { other = y; among = found.0; path = found.1; file = files.one; other_file = files.other; whole = both_whole (content_at keys v x.at) (content_at keys_to v y.at) files.same }

  -- each file of the one
  pub source_whole : IsMappedWalkOf rule v (side_of from items) → (path : plain.Path) (rest : Path) → standing (format_of from.vault) (under from.root v) path ≡ File rest
      → (content_at keys v (from.root ++ rest)).ending ≡ Whole
  source_whole walk path rest stands =
      let own : Planned = record { path = path; node = node.File; at = from.root ++ rest } in
      (read_whole (mapped_item rule own) (mapped_among rule walk.own items own walk.mapped (in_walk from walk.own v walk.walk path rest stands)) (λ other among at. inl refl)).whole.first

  -- and of the other
  pub target_whole : IsWalkOf v (side_of to others) → (path : plain.Path) (rest : Path) → standing (format_of to.vault) (under to.root v) path ≡ File rest
      → (content_at keys_to v (to.root ++ rest)).ending ≡ Whole
  target_whole walk path rest stands =
      let y : Planned = record { path = path; node = node.File; at = to.root ++ rest } in
      let found = none_further items others all.last_is y (in_walk to others v walk path rest stands) in
      let x = found_with path items found.0 found.1 in
      let read = read_whole found.0 x.0 (λ other among at. inr (file_of other among (at ∙ x.1))) in
      subst (λ p. (content_at keys_to v p).ending ≡ Whole) (where_planned to others v walk read.other read.among read.other_file rest (ap (standing (format_of to.vault) (under to.root v)) (read.path ∙ x.1) ∙ stands)) read.whole.second
    where
      some_kind : (n m : NodeKind) → Some n ≡ Some m → n ≡ m
      some_kind n m e = cc e

      file_of : (other : Planned) → Contains others other → other.path ≡ path → other.node ≡ node.File
      file_of other among at = by (planned v (side_of to others) walk other among)
        where
          by : (z : Planned) × (placed to.root z ≡ other) × IsPlanned (format_of to.vault) (under to.root v) z → other.node ≡ node.File
          by p =
              some_kind other.node node.File
              (ap (λ (z : Planned). Some z.node) (sym p.1) ∙ sym p.2.node ∙ ap (λ q. node_of (standing (format_of to.vault) (under to.root v) q)) (ap (λ (z : Planned). z.path) p.1 ∙ at) ∙ ap node_of stands)
