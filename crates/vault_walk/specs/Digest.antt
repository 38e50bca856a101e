-- The digest of a plan: SHA-256 of a line for each of its items, `d ` or `f `, the shown path and a newline.
use Rattle.std.specs.Prelude.{ℕ, List, ◌++◌, codes}
use Rattle.std.specs.List.{flat_map}
use Rattle.plain_tree.specs.Shown.{shown_path}
use Rattle.plain_tree.specs.declared.NodeKind.{NodeKind}
use Rattle.plain_tree.specs.declared.NodeKind.TheVariants as node
use Rattle.sha2.specs.Sha256.{sha256}
use Rattle.vault_spec.specs.Plan.{Planned}

abbrev pub kind_letter : NodeKind → List ℕ
kind_letter node.Dir = codes "d "
kind_letter node.File = codes "f "

abbrev pub line_of : Planned → List ℕ
line_of item = kind_letter item.node ++ shown_path item.path ++ codes "\n"

abbrev pub plan_text : List Planned → List ℕ
plan_text items = flat_map line_of items

abbrev pub plan_digest : List Planned → List ℕ
plan_digest items = sha256 (plan_text items)
