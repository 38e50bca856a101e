use Rattle.std.proofs.Common.{[], ◌∷◌}
use Rattle.folder_spec.specs.Edit.{directory_edit}
use Rattle.vault_write.specs.Editing.{shelf_edits, home_edits}
use Rattle.vault_write.proofs.Adding.{adds_on, adds_first}
use Rattle.vault_write.proofs.Placed.{adds_err}
use Rattle.vault_write.proofs.directory.make_home.Goals as goal

pub returns-in_err-make_shelf-clause-made : goal.returns-in_err-make_shelf-clause-made
returns-in_err-make_shelf-clause-made g c = λ work.
    adds_err work (home_edits c.args.wants c.args.shelf.now c.args.home.now) [] (g.F.Folder.told c.args.folder.now) (g.F.Folder.told c.make_shelf.new.folder) c.in_err-make_shelf.field-0.0
    c.from_residual.result c.from_residual.ensures.0
    (adds_first work (shelf_edits c.args.wants c.args.shelf.now) (directory_edit c.args.home.now ∷ []) [] [] (g.F.Folder.told c.args.folder.now) (g.F.Folder.told c.make_shelf.new.folder) c.in_err-make_shelf.field-0.0
    (c.in_err-make_shelf.ensures.made work))

pub returns-clause-made : goal.returns-clause-made
returns-clause-made g c = λ work.
    adds_on work (shelf_edits c.args.wants c.args.shelf.now) (directory_edit c.args.home.now ∷ []) [] [] (g.F.Folder.told c.args.folder.now) (g.F.Folder.told c.make_shelf.new.folder)
    (g.F.Folder.told c.make_folder.new.folder) c.make_folder.result (c.in_ok-make_shelf.ensures.made work) (c.make_folder.ensures.made work)
