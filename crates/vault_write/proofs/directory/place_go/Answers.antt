use Rattle.std.proofs.Common.{[], sym, arith}
use Rattle.item_making.specs.Ending.{Whole}
use Rattle.vault_spec.specs.Making.{NewDirectory}
use Rattle.vault_spec.specs.Vault.{format_of}
use Rattle.vault_write.specs.Editing.{go_making}
use Rattle.vault_write.specs.Slots.{placing}
use Rattle.vault_write.proofs.Found.{go_draws, side_refused}
use Rattle.vault_write.proofs.DirectoryPlaced.{drawn_none, refused_one, go_may, go_undrawn, drew_key, failed_one, done_one, key_has_bits}
use Rattle.vault_write.proofs.Exits.{place_drew}
use Rattle.vault_write.proofs.Filing.{no_zeros_in_none}
use Rattle.vault_write.proofs.directory.place_go.Goals as goal

pub returns-in_err-wants-clause-made : goal.returns-in_err-wants-clause-made
returns-in_err-wants-clause-made g c =
    refused_one (placing c.args.vault.now c.args.work.now c.args.front.now c.args.name.now NewDirectory) [] (g.R.Randoms.left c.args.random.now) (g.R.Randoms.left c.args.random.now) (g.F.Folder.told c.args.folder.now) (g.F.Folder.told c.wants_side.new.folder) c.in_err-wants.field-0.0 c.from_residual.result (drawn_none (g.R.Randoms.left c.args.random.now)) (omega arith) (place_drew c.in_err-wants.field-0.0 c.in_err-wants.ensures.kind) (λ other. no_zeros_in_none (format_of c.args.vault.now.vault).content) c.wants_side.ensures.told
    (side_refused c.args.vault.now.root c.args.vault.now.vault c.requires.kind c.args.front.now c.args.name.now (g.F.Folder.told c.args.folder.now) c.args.slot.now.at c.args.slot.now.side c.args.slot.now.full c.requires.slot NewDirectory c.in_err-wants.field-0.0 c.in_err-wants.ensures.taken c.args.work.now Whole) c.from_residual.ensures.1

pub returns-in_err-key-clause-made : goal.returns-in_err-key-clause-made
returns-in_err-key-clause-made g c =
    go_undrawn c.args.vault.now c.requires.kind c.args.work.now c.args.front.now c.args.name.now (g.R.Randoms.left c.args.random.now) (g.R.Randoms.left c.draw_some.new.random) (g.F.Folder.told c.args.folder.now) (g.F.Folder.told c.wants_side.new.folder) c.in_err-key.field-0.0 c.from_residual-in_err-key.result c.in_err-key.ensures.draws
    (go_draws c.args.vault.now.root c.args.vault.now.vault c.requires.kind c.args.work.now c.args.front.now c.args.name.now NewDirectory (g.F.Folder.told c.args.folder.now) c.args.slot.now.at c.args.slot.now.side c.args.slot.now.full c.requires.slot (λ v is. (c.in_ok-wants.ensures.wants v is).1))
    c.wants_side.ensures.told c.from_residual-in_err-key.ensures.1

pub make_go-requires-clause-begun : goal.make_go-requires-clause-begun
make_go-requires-clause-begun g c = rw c.wants_side.ensures.told (go_may c.what_is_found_stands.ensures.enters c.what_is_found_stands.ensures.folder c.args.vault.now.root c.args.vault.now.vault c.requires.kind (c.items_keep_vaults.ensures c.args.vault.now.vault) c.args.work.now c.args.front.now c.args.name.now c.requires.named
    (g.F.Folder.told c.args.folder.now) c.requires.may (g.met.F.Folder.sound c.args.folder.now) c.args.slot.now.at c.args.slot.now.side c.args.slot.now.full c.requires.slot c.in_ok-wants.wants c.in_ok-key.key c.in_ok-wants.ensures.wants
    (drew_key (g.R.Randoms.left c.args.random.now) (g.R.Randoms.left c.draw_some.new.random) c.in_ok-key.key c.in_ok-key.ensures.draws) c.in_ok-key.ensures.sixteen).begins

pub make_go-requires-clause-places : goal.make_go-requires-clause-places
make_go-requires-clause-places g c = rw c.wants_side.ensures.told (go_may c.what_is_found_stands.ensures.enters c.what_is_found_stands.ensures.folder c.args.vault.now.root c.args.vault.now.vault c.requires.kind (c.items_keep_vaults.ensures c.args.vault.now.vault) c.args.work.now c.args.front.now c.args.name.now c.requires.named
    (g.F.Folder.told c.args.folder.now) c.requires.may (g.met.F.Folder.sound c.args.folder.now) c.args.slot.now.at c.args.slot.now.side c.args.slot.now.full c.requires.slot c.in_ok-wants.wants c.in_ok-key.key c.in_ok-wants.ensures.wants
    (drew_key (g.R.Randoms.left c.args.random.now) (g.R.Randoms.left c.draw_some.new.random) c.in_ok-key.key c.in_ok-key.ensures.draws) c.in_ok-key.ensures.sixteen).places

pub returns-in_err-make_go-clause-made : goal.returns-in_err-make_go-clause-made
returns-in_err-make_go-clause-made g c =
    failed_one c.edits_show_trees.ensures.during c.edits_show_trees.ensures.settled c.roots_show_their_own.ensures.edits (placing c.args.vault.now c.args.work.now c.args.front.now c.args.name.now NewDirectory) c.in_ok-key.key (go_making c.in_ok-wants.wants c.args.slot.now.side c.args.slot.now.at c.args.slot.now.full c.in_ok-key.key) (g.R.Randoms.left c.args.random.now) (g.R.Randoms.left c.draw_some.new.random) (g.F.Folder.told c.args.folder.now) (g.F.Folder.told c.make_go.new.folder) (go_may c.what_is_found_stands.ensures.enters c.what_is_found_stands.ensures.folder c.args.vault.now.root c.args.vault.now.vault c.requires.kind (c.items_keep_vaults.ensures c.args.vault.now.vault) c.args.work.now c.args.front.now c.args.name.now c.requires.named
    (g.F.Folder.told c.args.folder.now) c.requires.may (g.met.F.Folder.sound c.args.folder.now) c.args.slot.now.at c.args.slot.now.side c.args.slot.now.full c.requires.slot c.in_ok-wants.wants c.in_ok-key.key c.in_ok-wants.ensures.wants
    (drew_key (g.R.Randoms.left c.args.random.now) (g.R.Randoms.left c.draw_some.new.random) c.in_ok-key.key c.in_ok-key.ensures.draws) c.in_ok-key.ensures.sixteen).begun
    c.in_ok-key.ensures.drawn c.in_ok-key.ensures.sixteen c.in_err-make_go.field-0.0 c.from_residual-in_err-make_go.result
    (key_has_bits (format_of c.args.vault.now.vault).content c.in_ok-key.key c.in_ok-key.ensures.sixteen c.in_ok-key.ensures.some_bit)
    (rw (sym c.wants_side.ensures.told) c.in_err-make_go.ensures.made.0) c.from_residual-in_err-make_go.ensures.1

pub returns-clause-made : goal.returns-clause-made
returns-clause-made g c =
    done_one c.edits_show_trees.ensures.during c.edits_show_trees.ensures.settled c.roots_show_their_own.ensures.edits (placing c.args.vault.now c.args.work.now c.args.front.now c.args.name.now NewDirectory) c.in_ok-key.key (go_making c.in_ok-wants.wants c.args.slot.now.side c.args.slot.now.at c.args.slot.now.full c.in_ok-key.key) (g.R.Randoms.left c.args.random.now) (g.R.Randoms.left c.draw_some.new.random) (g.F.Folder.told c.args.folder.now) (g.F.Folder.told c.make_go.new.folder) (go_may c.what_is_found_stands.ensures.enters c.what_is_found_stands.ensures.folder c.args.vault.now.root c.args.vault.now.vault c.requires.kind (c.items_keep_vaults.ensures c.args.vault.now.vault) c.args.work.now c.args.front.now c.args.name.now c.requires.named
    (g.F.Folder.told c.args.folder.now) c.requires.may (g.met.F.Folder.sound c.args.folder.now) c.args.slot.now.at c.args.slot.now.side c.args.slot.now.full c.requires.slot c.in_ok-wants.wants c.in_ok-key.key c.in_ok-wants.ensures.wants
    (drew_key (g.R.Randoms.left c.args.random.now) (g.R.Randoms.left c.draw_some.new.random) c.in_ok-key.key c.in_ok-key.ensures.draws) c.in_ok-key.ensures.sixteen).begun
    c.in_ok-key.ensures.drawn c.in_ok-key.ensures.sixteen (key_has_bits (format_of c.args.vault.now.vault).content c.in_ok-key.key c.in_ok-key.ensures.sixteen c.in_ok-key.ensures.some_bit)
    (rw (sym c.wants_side.ensures.told) c.in_ok-make_go.ensures.made.0)
    (rw (sym c.wants_side.ensures.told) c.in_ok-make_go.ensures.made.1)
