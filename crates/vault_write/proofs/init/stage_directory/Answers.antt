use Rattle.std.proofs.Common.{[], subst}
use Rattle.folder_staging.specs.Folders.{StagesFolder, IsStagedFolder}
use Rattle.vault_write.proofs.init.stage_directory.Goals as goal

pub returns-in_err-begin_folder-clause-stages : goal.returns-in_err-begin_folder-clause-stages
returns-in_err-begin_folder-clause-stages g c contents =
    subst (λ p. StagesFolder contents p (g.F.Folder.told c.args.folder.now) (g.F.Folder.told c.begin_folder.new.folder)) c.in_ok-at.ensures (c.begin_folder.ensures.begun contents).0

pub returns-clause-stages : goal.returns-clause-stages
returns-clause-stages g c contents =
    subst (λ p. StagesFolder contents p (g.F.Folder.told c.args.folder.now) (g.F.Folder.told c.begin_folder.new.folder)) c.in_ok-at.ensures (c.begin_folder.ensures.begun contents).0

pub returns-clause-staged : goal.returns-clause-staged
returns-clause-staged g c contents =
    subst (λ p. IsStagedFolder contents p [] (g.F.Folder.told c.args.folder.now) (g.F.Folder.told c.begin_folder.new.folder)) c.in_ok-at.ensures (c.in_ok-begin_folder.ensures.begun contents).1
