use Rattle.std.proofs.Common.{codes}
use Rattle.vault_write.proofs.Filing.{rename_failed, renamed_last}
use Rattle.vault_write.proofs.Placed.{does_failed}
use Rattle.vault_write.proofs.Replacing.{replaces_err, replaces_failed, replaces_settled}
use Rattle.vault_write.proofs.file.publish_entry.Goals as goal

pub returns-in_err-rename-clause-published : goal.returns-in_err-rename-clause-published
returns-in_err-rename-clause-published g c = λ work root made m done before is free held.
    does_failed work root m before (g.F.Folder.told c.rename.new.self) c.from_residual.result c.from_residual.ensures.0
    (rename_failed work root c.args.staged.now c.args.at.now made m done before (g.F.Folder.told c.args.folder.now) is free held (g.F.Folder.told c.rename.new.self) c.in_err-rename.field-0.0 c.in_err-rename.ensures.changes)

pub returns-clause-published : goal.returns-clause-published
returns-clause-published g c = λ work root made m done before is free held.
    renamed_last work root c.args.staged.now c.args.at.now made m done before (g.F.Folder.told c.args.folder.now) is free held (g.F.Folder.told c.rename.new.self) (g.F.Folder.told c.settle.new.self) c.settle.result
    c.in_ok-rename.ensures.changes c.settle.ensures.changes

pub returns-in_err-rename-clause-replaced : goal.returns-in_err-rename-clause-replaced
returns-in_err-rename-clause-replaced g c = λ work root bytes before is may whole.
    replaces_err work root c.args.at.now bytes before (g.F.Folder.told c.rename.new.self) c.in_err-rename.field-0.0 c.from_residual.result c.from_residual.ensures.0
    (replaces_failed work root c.args.at.now bytes (codes "f") c.args.staged.now before (g.F.Folder.told c.args.folder.now) is (g.met.F.Folder.sound c.args.folder.now) may whole
    (g.F.Folder.told c.rename.new.self) c.in_err-rename.field-0.0 c.in_err-rename.ensures.changes)

pub returns-clause-replaced : goal.returns-clause-replaced
returns-clause-replaced g c = λ work root bytes before is may whole.
    replaces_settled work root c.args.at.now bytes (codes "f") c.args.staged.now before (g.F.Folder.told c.args.folder.now) is (g.met.F.Folder.sound c.args.folder.now) may whole
    (g.F.Folder.told c.rename.new.self) (g.F.Folder.told c.settle.new.self) c.settle.result c.in_ok-rename.ensures.changes c.settle.ensures.changes
