use Rattle.std.proofs.Common.{subst}
use Rattle.folder_model.proofs.ByFault.{at_fault}
use Rattle.item_making.specs.Faults.{of_find}
use Rattle.vault_write.specs.Filing.{IsOverFault}
use Rattle.vault_write.proofs.PutMade.{over_fault}
use Rattle.vault_write.proofs.slot.entered.Goals as goal

pub returns-in_err-dir-clause-over : goal.returns-in_err-dir-clause-over
returns-in_err-dir-clause-over g c =
    at_fault c.from_residual-in_err-dir.result (IsOverFault c.args.vault.now c.args.front.now (g.F.Folder.told c.args.folder.now)) (of_find c.in_err-dir.field-0.0) c.from_residual-in_err-dir.ensures.1
    (subst (λ front. IsOverFault c.args.vault.now front (g.F.Folder.told c.args.folder.now) (of_find c.in_err-dir.field-0.0)) c.in_ok-path.ensures
    (over_fault c.args.vault.now c.in_ok-path.path (g.F.Folder.told c.args.folder.now) c.in_err-dir.field-0.0 c.in_err-dir.ensures.fault))
