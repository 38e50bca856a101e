use Rattle.std.proofs.Common.{refl, sym, ◌∙◌, arith}
use Rattle.vault_values.specs.Id.{id_of}
use Rattle.vault_spec.specs.Making.{NewDirectory}
use Rattle.vault_write.specs.Editing.{cm_making}
use Rattle.vault_write.specs.Slots.{placing}
use Rattle.vault_write.proofs.DirectoryPlaced.{refused_one, undrawn_one, home_refused, is_cryptomator, is_id, cm_may, failed_one, done_one, none_refused}
use Rattle.vault_write.proofs.Exits.{place_drew}
use Rattle.vault_write.proofs.Found.{cm_draws}
use Rattle.vault_write.proofs.directory.place_cm.Goals as goal

pub returns-in_err-text-clause-made : goal.returns-in_err-text-clause-made
returns-in_err-text-clause-made g c =
    undrawn_one c.args.vault.now c.args.work.now c.args.front.now c.args.name.now (g.R.Randoms.left c.args.random.now) (g.R.Randoms.left c.draw_id.new.random) (g.F.Folder.told c.args.folder.now) (g.F.Folder.told c.args.folder.now) c.in_err-text.field-0.0 c.from_residual.result c.in_err-text.ensures.few (none_refused c.contents_of_cryptomator_refuse_no_zeros.ensures c.args.vault.now.vault c.requires.kind) c.in_err-text.ensures.fault
    (cm_draws c.args.vault.now.root c.args.vault.now.vault c.requires.kind c.args.work.now c.args.front.now c.args.name.now NewDirectory (g.F.Folder.told c.args.folder.now) c.args.slot.now.at c.args.slot.now.side c.args.slot.now.full c.requires.slot) refl c.from_residual.ensures.1

pub home_of-requires : goal.home_of-requires
home_of-requires g c = is_cryptomator c.args.vault.now.vault c.requires.kind

pub returns-in_err-home-clause-made : goal.returns-in_err-home-clause-made
returns-in_err-home-clause-made g c =
    refused_one (placing c.args.vault.now c.args.work.now c.args.front.now c.args.name.now NewDirectory) c.in_ok-text.ensures.drawn.drawn (g.R.Randoms.left c.args.random.now) (g.R.Randoms.left c.draw_id.new.random) (g.F.Folder.told c.args.folder.now) (g.F.Folder.told c.home_of.new.folder) c.in_err-home.field-0.0 c.from_residual-in_err-home.result c.in_ok-text.ensures.drawn.were_drawn (omega (arith, c.in_ok-text.ensures.drawn.sixteen)) (place_drew c.in_err-home.field-0.0 c.in_err-home.ensures.kind) (λ other. none_refused c.contents_of_cryptomator_refuse_no_zeros.ensures c.args.vault.now.vault c.requires.kind c.in_ok-text.ensures.drawn.drawn) c.home_of.ensures.told
    (home_refused c.args.vault.now.root c.args.vault.now.vault c.requires.kind c.args.work.now c.args.front.now c.args.name.now c.as_bytes-id.result.now c.in_ok-text.ensures.drawn.drawn (g.F.Folder.told c.args.folder.now) c.args.slot.now.at c.args.slot.now.side c.args.slot.now.full (c.as_bytes-id.ensures.value ∙ c.in_ok-text.ensures.drawn.is) c.requires.slot c.in_err-home.field-0.0 c.in_err-home.ensures.taken) c.from_residual-in_err-home.ensures.1

pub make_cm-requires-clause-begun : goal.make_cm-requires-clause-begun
make_cm-requires-clause-begun g c = rw c.home_of.ensures.told (cm_may c.what_is_found_stands.ensures.enters c.what_is_found_stands.ensures.folder c.args.vault.now.root c.args.vault.now.vault c.requires.kind (c.items_keep_vaults.ensures c.args.vault.now.vault) c.args.work.now c.args.front.now c.args.name.now c.requires.named
    (g.F.Folder.told c.args.folder.now) c.requires.may (g.met.F.Folder.sound c.args.folder.now) c.args.slot.now.at c.args.slot.now.side c.args.slot.now.full c.requires.slot c.in_ok-home.home.shelf c.in_ok-home.home.home c.in_ok-home.home.wants c.as_bytes-id.result.now c.in_ok-text.ensures.drawn.drawn
    c.in_ok-home.ensures.home c.in_ok-home.ensures.shelf c.in_ok-home.ensures.free c.in_ok-home.ensures.wants (c.as_bytes-id.ensures.value ∙ c.in_ok-text.ensures.drawn.is)
    (is_id (id_of c.in_ok-text.ensures.drawn.drawn) (c.dir_ids_are_plain.ensures.size c.in_ok-text.ensures.drawn.drawn) (c.dir_ids_are_plain.ensures.characters c.in_ok-text.ensures.drawn.drawn)) c.in_ok-text.ensures.drawn.sixteen).begins

pub make_cm-requires-clause-places : goal.make_cm-requires-clause-places
make_cm-requires-clause-places g c = rw c.home_of.ensures.told (cm_may c.what_is_found_stands.ensures.enters c.what_is_found_stands.ensures.folder c.args.vault.now.root c.args.vault.now.vault c.requires.kind (c.items_keep_vaults.ensures c.args.vault.now.vault) c.args.work.now c.args.front.now c.args.name.now c.requires.named
    (g.F.Folder.told c.args.folder.now) c.requires.may (g.met.F.Folder.sound c.args.folder.now) c.args.slot.now.at c.args.slot.now.side c.args.slot.now.full c.requires.slot c.in_ok-home.home.shelf c.in_ok-home.home.home c.in_ok-home.home.wants c.as_bytes-id.result.now c.in_ok-text.ensures.drawn.drawn
    c.in_ok-home.ensures.home c.in_ok-home.ensures.shelf c.in_ok-home.ensures.free c.in_ok-home.ensures.wants (c.as_bytes-id.ensures.value ∙ c.in_ok-text.ensures.drawn.is)
    (is_id (id_of c.in_ok-text.ensures.drawn.drawn) (c.dir_ids_are_plain.ensures.size c.in_ok-text.ensures.drawn.drawn) (c.dir_ids_are_plain.ensures.characters c.in_ok-text.ensures.drawn.drawn)) c.in_ok-text.ensures.drawn.sixteen).places

pub returns-in_err-make_cm-clause-made : goal.returns-in_err-make_cm-clause-made
returns-in_err-make_cm-clause-made g c =
    failed_one c.edits_show_trees.ensures.during c.edits_show_trees.ensures.settled c.roots_show_their_own.ensures.edits (placing c.args.vault.now c.args.work.now c.args.front.now c.args.name.now NewDirectory) c.in_ok-text.ensures.drawn.drawn (cm_making c.in_ok-home.home.wants c.in_ok-home.home.shelf c.in_ok-home.home.home c.args.slot.now.at c.args.slot.now.full c.as_bytes-id.result.now) (g.R.Randoms.left c.args.random.now) (g.R.Randoms.left c.draw_id.new.random) (g.F.Folder.told c.args.folder.now) (g.F.Folder.told c.make_cm.new.folder) (cm_may c.what_is_found_stands.ensures.enters c.what_is_found_stands.ensures.folder c.args.vault.now.root c.args.vault.now.vault c.requires.kind (c.items_keep_vaults.ensures c.args.vault.now.vault) c.args.work.now c.args.front.now c.args.name.now c.requires.named
    (g.F.Folder.told c.args.folder.now) c.requires.may (g.met.F.Folder.sound c.args.folder.now) c.args.slot.now.at c.args.slot.now.side c.args.slot.now.full c.requires.slot c.in_ok-home.home.shelf c.in_ok-home.home.home c.in_ok-home.home.wants c.as_bytes-id.result.now c.in_ok-text.ensures.drawn.drawn
    c.in_ok-home.ensures.home c.in_ok-home.ensures.shelf c.in_ok-home.ensures.free c.in_ok-home.ensures.wants (c.as_bytes-id.ensures.value ∙ c.in_ok-text.ensures.drawn.is)
    (is_id (id_of c.in_ok-text.ensures.drawn.drawn) (c.dir_ids_are_plain.ensures.size c.in_ok-text.ensures.drawn.drawn) (c.dir_ids_are_plain.ensures.characters c.in_ok-text.ensures.drawn.drawn)) c.in_ok-text.ensures.drawn.sixteen).begun
    c.in_ok-text.ensures.drawn.were_drawn c.in_ok-text.ensures.drawn.sixteen c.in_err-make_cm.field-0.0 c.from_residual-in_err-make_cm.result
    (none_refused c.contents_of_cryptomator_refuse_no_zeros.ensures c.args.vault.now.vault c.requires.kind c.in_ok-text.ensures.drawn.drawn)
    (rw (sym c.home_of.ensures.told) c.in_err-make_cm.ensures.made.0) c.from_residual-in_err-make_cm.ensures.1

pub returns-clause-made : goal.returns-clause-made
returns-clause-made g c =
    done_one c.edits_show_trees.ensures.during c.edits_show_trees.ensures.settled c.roots_show_their_own.ensures.edits (placing c.args.vault.now c.args.work.now c.args.front.now c.args.name.now NewDirectory) c.in_ok-text.ensures.drawn.drawn (cm_making c.in_ok-home.home.wants c.in_ok-home.home.shelf c.in_ok-home.home.home c.args.slot.now.at c.args.slot.now.full c.as_bytes-id.result.now) (g.R.Randoms.left c.args.random.now) (g.R.Randoms.left c.draw_id.new.random) (g.F.Folder.told c.args.folder.now) (g.F.Folder.told c.make_cm.new.folder) (cm_may c.what_is_found_stands.ensures.enters c.what_is_found_stands.ensures.folder c.args.vault.now.root c.args.vault.now.vault c.requires.kind (c.items_keep_vaults.ensures c.args.vault.now.vault) c.args.work.now c.args.front.now c.args.name.now c.requires.named
    (g.F.Folder.told c.args.folder.now) c.requires.may (g.met.F.Folder.sound c.args.folder.now) c.args.slot.now.at c.args.slot.now.side c.args.slot.now.full c.requires.slot c.in_ok-home.home.shelf c.in_ok-home.home.home c.in_ok-home.home.wants c.as_bytes-id.result.now c.in_ok-text.ensures.drawn.drawn
    c.in_ok-home.ensures.home c.in_ok-home.ensures.shelf c.in_ok-home.ensures.free c.in_ok-home.ensures.wants (c.as_bytes-id.ensures.value ∙ c.in_ok-text.ensures.drawn.is)
    (is_id (id_of c.in_ok-text.ensures.drawn.drawn) (c.dir_ids_are_plain.ensures.size c.in_ok-text.ensures.drawn.drawn) (c.dir_ids_are_plain.ensures.characters c.in_ok-text.ensures.drawn.drawn)) c.in_ok-text.ensures.drawn.sixteen).begun
    c.in_ok-text.ensures.drawn.were_drawn c.in_ok-text.ensures.drawn.sixteen (none_refused c.contents_of_cryptomator_refuse_no_zeros.ensures c.args.vault.now.vault c.requires.kind c.in_ok-text.ensures.drawn.drawn)
    (rw (sym c.home_of.ensures.told) c.in_ok-make_cm.ensures.made.0)
    (rw (sym c.home_of.ensures.told) c.in_ok-make_cm.ensures.made.1)
