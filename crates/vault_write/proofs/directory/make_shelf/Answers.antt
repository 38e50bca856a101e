use Rattle.std.proofs.Common.{[], None, sym, subst}
use Rattle.vault_write.specs.Editing.{AddsEdits, HomePlaces, shelf_edits}
use Rattle.vault_write.proofs.Placed.{home_free_now, shelf_home}
use Rattle.vault_write.proofs.directory.make_shelf.Goals as goal

pub returns-then-not-wants-clause-home : goal.returns-then-not-wants-clause-home
returns-then-not-wants-clause-home g c =
    home_free_now c.args.shelf.now c.args.home.now (g.F.Folder.told c.args.folder.now)
    (λ v is. subst (λ b. HomePlaces v b c.args.shelf.now c.args.home.now) c.if-not-wants.true (c.requires v is))

pub returns-clause-made : goal.returns-clause-made
returns-clause-made g c = λ work.
    subst (λ b. AddsEdits None work (shelf_edits b c.args.shelf.now) [] (g.F.Folder.told c.args.folder.now) (g.F.Folder.told c.make_folder.new.folder) c.make_folder.result) (sym c.if-not-wants.false)
    (c.make_folder.ensures.made work)

pub returns-clause-home : goal.returns-clause-home
returns-clause-home g c =
    shelf_home c.args.shelf.now c.args.home.now c.args.wants (g.F.Folder.told c.args.folder.now) (g.F.Folder.told c.make_folder.new.folder) c.make_folder.result c.if-not-wants.false c.requires c.make_folder.ensures.shown
