use Rattle.std.proofs.Common.{◌≡◌, ◌≤◌, drop}
use Rattle.folder_spec.specs.View.{View}
use Rattle.folder_spec.specs.Seen.{IfSeen, IsSeen}
use Rattle.vault_spec.specs.Plan.{Planned}
use Rattle.vault_spec.specs.Vault.{format_of}
use Rattle.tree_match.specs.Comparing.{Is}
use Rattle.tree_match.specs.Matching.{first_differing, first_further, held_by, item_with}
use Rattle.tree_match.proofs.Merging.{Merges}
use Rattle.tree_match.proofs.matching.compare_items.Given as goal

-- what was gone through is in the other vault, as it is here
abbrev pub invariant-loop-item : goal.invariant-loop-item
invariant-loop-item g l = record {
  told : g.F.Folder.told l.folder ≡ g.F.Folder.told l.initial.folder;
  grows : g.F.Folder.faults l.initial.folder ≤ g.F.Folder.faults l.folder;
  merges : IfSeen (g.F.Folder.told l.initial.folder) (λ v. Merges (drop l.item-index l.items) l.others l.rest);
  same : (v : View) → IsSeen (g.F.Folder.told l.initial.folder) v
      → (let held = λ (item : Planned). held_by (format_of l.a.vault).content (format_of l.b.vault).content v item (item_with item.path l.others) in
      let last = Is (first_further l.items l.others) in
      first_differing held l.items last ≡ first_differing held (drop l.item-index l.items) last);
}
