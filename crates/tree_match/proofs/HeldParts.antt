-- That the tree that the items of one vault tell is part of another, where comparing tells so.
use Rattle.std.proofs.Common.{◌≡◌, ◌≢◌, [], Bool, true, false, Option, Some, None, refl, sym, ap, subst, ◌∙◌, Contains}
use Rattle.chunk_files.specs.FileOf.{WholeFilesEnd}
use Rattle.folder_spec.specs.View.{View}
use Rattle.vault_spec.specs.Mapped.{IsWhole}
use Rattle.plain_tree.specs.Names as plain
use Rattle.plain_tree.specs.declared.NodeKind.{NodeKind}
use Rattle.plain_tree.specs.declared.NodeKind.TheVariants as node
use Rattle.vault_spec.specs.Opens.{NoItem, Directory, Content, Tree}
use Rattle.vault_spec.specs.Plan.{Planned}
use Rattle.vault_spec.specs.Vault.{format_of}
use Rattle.tree_match.proofs.HeldTrees.{HoldsEach, IsNoDifference, found_with, held_each, none_further}
use Rattle.tree_match.proofs.ToldTrees.{TellsTree, opens_content, opens_directory}
use Rattle.tree_match.proofs.WholeContents.{AreWhole, whole_and_same}
use Rattle.tree_match.specs.Comparing.{Outcome, Is, Stops, compared, content_at}
use Rattle.tree_match.specs.Matching.{content_held, first_further, held_as, held_by, item_with}
use Rattle.tree_match.specs.Trees.{PlannedVault, HoldsAllBy, AsSame, AndFurther, match_of}
use Rattle.tree_match.specs.declared.answer.Match.{Match}
use Rattle.tree_match.specs.declared.answer.Match.TheVariants.{Same, Contained, Differs}

-- both have nothing there, or both a directory, or files with one content
abbrev pub OpenAlike : Tree → Tree → plain.Path → Type 0
OpenAlike t u path = (t path ≡ u path) × IsWhole (t path)

-- each item of the first tree opens alike in the second
abbrev pub IsPart : Tree → Tree → Type 0
IsPart t u = (path : plain.Path) → path ≢ [] → t path ≢ NoItem → OpenAlike t u path

same_content : (outcome : Outcome Bool) → content_held outcome ≡ Is None → outcome ≡ Is true
same_content (Is true) e = refl
same_content (Is false) e = cc e
same_content (Stops at ending) e = cc e

module _ (ends : WholeFilesEnd) (v : View) (a b : PlannedVault) (t u : Tree) (tells_a : TellsTree v a t) (tells_b : TellsTree v b u) where
  held_alike : (x o : Planned) → Contains a.items x → Contains b.items o → o.path ≡ x.path
      → held_as x.node o.node (compared (content_at (format_of a.vault).content v x.at) (content_at (format_of b.vault).content v o.at)) ≡ Is None → OpenAlike t u x.path
  held_alike x o in_a in_b same held = by x.node o.node refl refl held
    where
      by : (n m : NodeKind) → x.node ≡ n → o.node ≡ m → held_as n m (compared (content_at (format_of a.vault).content v x.at) (content_at (format_of b.vault).content v o.at)) ≡ Is None → OpenAlike t u x.path
      by node.Dir node.Dir is_x is_o h =
          let one : t x.path ≡ Directory = opens_directory v a t tells_a x in_a is_x in
          let other : u o.path ≡ Directory = opens_directory v b u tells_b o in_b is_o in
          (one ∙ sym other ∙ ap u same, subst IsWhole (sym one) tt)
      by node.File node.File is_x is_o h =
          let whole : AreWhole (content_at (format_of a.vault).content v x.at) (content_at (format_of b.vault).content v o.at) =
          whole_and_same (content_at (format_of a.vault).content v x.at) (content_at (format_of b.vault).content v o.at) (same_content (compared (content_at (format_of a.vault).content v x.at) (content_at (format_of b.vault).content v o.at)) h) in
          let one : t x.path ≡ Content (content_at (format_of a.vault).content v x.at).bytes = opens_content v a t tells_a ends x in_a is_x whole.one in
          let other : u o.path ≡ Content (content_at (format_of b.vault).content v o.at).bytes = opens_content v b u tells_b ends o in_b is_o whole.other in
          (one ∙ ap Content whole.same ∙ sym other ∙ ap u same, subst IsWhole (sym one) tt)
      by node.Dir node.File is_x is_o h = cc h
      by node.File node.Dir is_x is_o h = cc h

  item_held : (x : Planned) → Contains a.items x → held_by (format_of a.vault).content (format_of b.vault).content v x (item_with x.path b.items) ≡ Is None → OpenAlike t u x.path
  item_held x in_a held = by (item_with x.path b.items) refl held
    where
      by : (found : Option Planned) → item_with x.path b.items ≡ found → held_by (format_of a.vault).content (format_of b.vault).content v x found ≡ Is None → OpenAlike t u x.path
      by None e h = cc h
      by (Some o) e h = let there : Contains b.items o × (o.path ≡ x.path) = found_with x.path b.items o e in held_alike x o in_a there.0 there.1 h

  all_held : (answer : Match) → IsNoDifference answer → match_of v a b ≡ Is answer → HoldsEach (λ item. held_by (format_of a.vault).content (format_of b.vault).content v item (item_with item.path b.items)) a.items (first_further a.items b.items) answer
  all_held answer none is = held_each (λ item. held_by (format_of a.vault).content (format_of b.vault).content v item (item_with item.path b.items)) (first_further a.items b.items) answer none a.items is

  is_part : (answer : Match) → IsNoDifference answer → match_of v a b ≡ Is answer → IsPart t u
  is_part answer none is path named there =
      let x : (x : Planned) × Contains a.items x × (x.path ≡ path) = tells_a.each path named there in
      subst (OpenAlike t u) x.2 (item_held x.0 x.1 ((all_held answer none is).each x.0 x.1))

  pub held_is_part : HoldsAllBy (match_of v a b) → IsPart t u
  held_is_part holds = by (match_of v a b) refl holds
    where
      by : (outcome : Outcome Match) → match_of v a b ≡ outcome → HoldsAllBy outcome → IsPart t u
      by (Is Same) is AsSame = is_part Same tt is
      by (Is (Contained path)) is (AndFurther _) = is_part (Contained path) tt is
      by (Is (Differs path how)) is none = elim none [ ]
      by (Stops at ending) is none = elim none [ ]

  pub same_is_part : match_of v a b ≡ Is Same → IsPart u t
  same_is_part is path named there =
      let o : (o : Planned) × Contains b.items o × (o.path ≡ path) = tells_b.each path named there in
      let all : HoldsEach (λ item. held_by (format_of a.vault).content (format_of b.vault).content v item (item_with item.path b.items)) a.items (first_further a.items b.items) Same = all_held Same tt is in
      let found : (x : Planned) × (item_with o.0.path a.items ≡ Some x) = none_further a.items b.items all.last_is o.0 o.1 in
      let x : Contains a.items found.0 × (found.0.path ≡ o.0.path) = found_with o.0.path a.items found.0 found.1 in
      let alike : OpenAlike t u path = subst (OpenAlike t u) (x.1 ∙ o.2) (item_held found.0 x.0 (all.each found.0 x.0)) in
      (sym alike.0, subst IsWhole alike.0 alike.1)
