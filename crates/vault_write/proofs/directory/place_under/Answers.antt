use Rattle.std.proofs.Common.{[], arith}
use Rattle.item_making.specs.Ending.{Whole}
use Rattle.vault_spec.specs.Making.{NewDirectory}
use Rattle.vault_write.specs.Slots.{placing}
use Rattle.vault_write.proofs.DirectoryPlaced.{drawn_none, refused_one}
use Rattle.vault_write.proofs.Exits.{place_drew}
use Rattle.vault_write.proofs.Filing.{no_zeros_in_none}
use Rattle.vault_spec.specs.Vault.{format_of}
use Rattle.vault_write.proofs.directory.place_under.Goals as goal

pub returns-in_err-slot-clause-made : goal.returns-in_err-slot-clause-made
returns-in_err-slot-clause-made g c =
    refused_one (placing c.args.vault.now c.args.work.now c.args.front.now c.args.name.now NewDirectory) [] (g.R.Randoms.left c.args.random.now) (g.R.Randoms.left c.args.random.now) (g.F.Folder.told c.args.folder.now) (g.F.Folder.told c.slot_at.new.folder) c.in_err-slot.field-0.0 c.from_residual.result (drawn_none (g.R.Randoms.left c.args.random.now)) (omega arith) (place_drew c.in_err-slot.field-0.0 c.in_err-slot.ensures.kind) (λ other. no_zeros_in_none (format_of c.args.vault.now.vault).content) c.slot_at.ensures.told
    (c.in_err-slot.ensures.refused NewDirectory c.args.work.now Whole) c.from_residual.ensures.1
