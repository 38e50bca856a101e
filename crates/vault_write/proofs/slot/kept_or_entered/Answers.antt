use Rattle.std.proofs.Common.{sym, ◌∙◌, subst}
use Rattle.folder_spec.proofs.Paths.{path_eq-Decides}
use Rattle.vault_write.specs.Calls.{IsAt, IsKept}
use Rattle.vault_write.proofs.slot.kept_or_entered.Goals as goal

pub returns-then-is_path-clause-path : goal.returns-then-is_path-clause-path
returns-then-is_path-clause-path g c = (path_eq-Decides c.in-Some.here.path c.args.front.now).0 (sym c.is_path.ensures ∙ c.if-is_path.true)

pub returns-then-is_path-clause-place : goal.returns-then-is_path-clause-place
returns-then-is_path-clause-place g c =
    subst (λ front. IsAt c.args.vault.now front c.in-Some.here.dir (g.F.Folder.told c.args.folder.now)) ((path_eq-Decides c.in-Some.here.path c.args.front.now).0 (sym c.is_path.ensures ∙ c.if-is_path.true))
    (subst (λ kept. IsKept c.args.vault.now (g.F.Folder.told c.args.folder.now) kept) c.in-Some.is c.requires).1
