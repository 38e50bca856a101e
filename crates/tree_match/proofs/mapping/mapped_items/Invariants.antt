use Rattle.std.proofs.Common.{◌≡◌, true, map, take}
use Rattle.std.specs.List.{list_all}
use Rattle.tree_match.specs.Mapping.{is_named, mapped_item}
use Rattle.tree_match.proofs.mapping.mapped_items.Given as goal

-- the items so far are mapped, each of their names to a name
abbrev pub invariant-loop-item : goal.invariant-loop-item
invariant-loop-item l = record {
  named : list_all (is_named l.names) (take l.item-index l.items) ≡ true;
  mapped : l.mapped.items ≡ map (mapped_item l.names) (take l.item-index l.items);
}
