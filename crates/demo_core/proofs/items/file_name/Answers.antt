use Rattle.std.proofs.Common.{◌∙◌, ◌++◌, IsTrue, ap, sym, subst, replicate}
use Rattle.plain_tree.specs.Names.{is_name}
use Rattle.demo_core.proofs.Naming.{is_name-short, is_name-long}
use Rattle.demo_core.proofs.items.file_name.Goals as goal

pub name_of-requires : goal.name_of-requires
name_of-requires c = subst (λ name. IsTrue (is_name name)) (sym c.in_ok-bytes.ensures) (is_name-short c.args.number)

pub name_of-requires-2 : goal.name_of-requires-2
name_of-requires-2 c = subst (λ name. IsTrue (is_name name)) (sym (c.in_ok-extend_from_slice.ensures.items ∙ ap (λ front. front ++ replicate 180 120) c.in_ok-bytes.ensures)) (is_name-long c.args.number)
