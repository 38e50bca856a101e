-- That two vaults that hold the same have as many items.
use Rattle.std.proofs.Common.{◌≡◌, Option, Some, None, length, refl}
use Rattle.folder_spec.specs.View.{View}
use Rattle.tree_match.proofs.HeldTrees.{HoldsEach, found_with, held_each, none_further}
use Rattle.tree_match.proofs.SamePaths.{HasPath, same_items}
use Rattle.tree_match.specs.Comparing.{Is, Outcome}
use Rattle.tree_match.specs.Matching.{first_further, held_by, item_with}
use Rattle.tree_match.specs.Trees.{PlannedVault, match_of}
use Rattle.tree_match.specs.declared.answer.How.{How}
use Rattle.tree_match.specs.declared.answer.Match.TheVariants.{Same}
use Rattle.vault_spec.specs.Plan.{Planned}
use Rattle.vault_spec.specs.Vault.{format_of}
use Rattle.vault_walk.specs.Survey.{IsOrdered}

pub same_length : (v : View) (a b : PlannedVault) → IsOrdered a.items → IsOrdered b.items → match_of v a b ≡ Is Same → length a.items ≡ length b.items
same_length v a b ordered ordered_b same =
    same_items a.items b.items ordered ordered_b (λ x among. in_other x (all.each x among))
    (λ y among. let found = none_further a.items b.items all.last_is y among in let x = found_with y.path a.items found.0 found.1 in (found.0, x.0, x.1))
  where
    held : Planned → Outcome (Option How)
    held item = held_by (format_of a.vault).content (format_of b.vault).content v item (item_with item.path b.items)

    all : HoldsEach (λ item. held_by (format_of a.vault).content (format_of b.vault).content v item (item_with item.path b.items)) a.items (first_further a.items b.items) Same
    all = held_each (λ item. held_by (format_of a.vault).content (format_of b.vault).content v item (item_with item.path b.items)) (first_further a.items b.items) Same tt a.items same

    in_other : (x : Planned) → held x ≡ Is None → HasPath b.items x.path
    in_other x is = by (item_with x.path b.items) refl is
      where
        by : (found : Option Planned) → item_with x.path b.items ≡ found → held_by (format_of a.vault).content (format_of b.vault).content v x found ≡ Is None → HasPath b.items x.path
        by None e is = cc is
        by (Some y) e is = let found = found_with x.path b.items y e in (y, found.0, found.1)
