use Rattle.std.proofs.Common.{◌∙◌}
use Rattle.vault_write.proofs.Founded.{founds_none}
use Rattle.vault_write.proofs.NewFounded.{cm_made}
use Rattle.vault_write.proofs.init.found_drawn.Goals as goal

pub returns-in_err-files-clause-founds : goal.returns-in_err-files-clause-founds
returns-in_err-files-clause-founds g c = founds_none _ c.from_residual.ensures.1 (g.met.F.Folder.sound c.args.folder.now) c.requires

pub returns-in_err-home-clause-founds : goal.returns-in_err-home-clause-founds
returns-in_err-home-clause-founds g c = founds_none _ c.from_residual-in_err-home.ensures.1 (g.met.F.Folder.sound c.args.folder.now) c.requires

pub returns-clause-founds : goal.returns-clause-founds
returns-clause-founds g c =
    cm_made c.args.work.now c.args.at.now (g.F.Folder.told c.args.folder.now) (g.F.Folder.told c.found_cm.new.folder) c.found_cm.result c.args.pass.now c.args.cost.now c.args.combo c.args.drawn.now c.as_slice-master.result.now c.as_slice-vault.result.now c.as_str.result.now
    (c.as_slice-master.ensures ∙ c.in_ok-files.ensures.master) (c.as_slice-vault.ensures ∙ c.in_ok-files.ensures.vault) (c.as_str.ensures.value ∙ c.in_ok-home.ensures) c.found_cm.ensures.founds
