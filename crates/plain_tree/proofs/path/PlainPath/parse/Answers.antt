use Rattle.std.proofs.Common.{rules, ◌≡◌, true, sym}
use Rattle.std.specs.List.{list_all}
use Rattle.plain_tree.specs.Names.{is_name}
use Rattle.plain_tree.proofs.Writing.{read_path-named}
use Rattle.plain_tree.proofs.path.PlainPath.parse.Goals as goal

pub invariant_of-result : goal.invariant_of-result
invariant_of-result c =
    let named : list_all is_name c.in-Some.names.items ≡ true =
    read_path-named c.args.text.now c.in-Some.names.items (sym (rw c.in-Some.is at c.in_ok-names.ensures)) in
    search rules
