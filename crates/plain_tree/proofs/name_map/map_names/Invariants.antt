use Rattle.std.proofs.Common.{◌≡◌, true, take}
use Rattle.std.specs.List.{list_all}
use Rattle.plain_tree.specs.Names.{is_name}
use Rattle.plain_tree.specs.Mapped.{mapped_path}
use Rattle.plain_tree.proofs.name_map.map_names.Given as goal

-- the names so far are mapped, to names
abbrev pub invariant-loop-name : goal.invariant-loop-name
invariant-loop-name l = record {
  mapped : l.mapped.items ≡ mapped_path l.names (take l.name-index l.path);
  named : list_all is_name l.mapped.items ≡ true;
}
