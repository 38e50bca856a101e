use Rattle.std.proofs.Common.{IsTrue, sym, subst}
use Rattle.plain_tree.specs.Names.{is_name}
use Rattle.demo_core.proofs.Naming.{is_name-directory}
use Rattle.demo_core.proofs.items.directory_name.Goals as goal

pub name_of-requires : goal.name_of-requires
name_of-requires c = subst (λ name. IsTrue (is_name name)) (sym c.in_ok-numbered.ensures) (is_name-directory c.args.count)
