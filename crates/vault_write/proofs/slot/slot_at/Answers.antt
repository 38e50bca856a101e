use Rattle.std.proofs.Common.{[]}
use Rattle.folder_model.proofs.ByFault.{at_fault}
use Rattle.vault_spec.specs.Making.{NewItem}
use Rattle.vault_write.specs.Slots.{RefusesItem}
use Rattle.vault_write.proofs.slot.slot_at.Goals as goal

pub returns-in_err-slot-clause-refused : goal.returns-in_err-slot-clause-refused
returns-in_err-slot-clause-refused g c =
    at_fault c.from_residual.result (λ fault. (item : NewItem) → RefusesItem c.args.vault.now c.args.front.now c.args.name.now item [] (g.F.Folder.told c.args.folder.now) fault) c.in_err-slot.field-0.0
    c.from_residual.ensures.1 (c.in_err-slot.ensures.refused (g.F.Folder.told c.args.folder.now) c.requires.dir)

pub returns-in_err-is_free-clause-refused : goal.returns-in_err-is_free-clause-refused
returns-in_err-is_free-clause-refused g c =
    at_fault c.from_residual-in_err-is_free.result (λ fault. (item : NewItem) → RefusesItem c.args.vault.now c.args.front.now c.args.name.now item [] (g.F.Folder.told c.args.folder.now) fault) c.in_err-is_free.field-0.0
    c.from_residual-in_err-is_free.ensures.1
    (λ item. (c.in_ok-slot.ensures.slot (g.F.Folder.told c.args.folder.now) c.requires.dir).taken item c.in_err-is_free.field-0.0 c.in_err-is_free.ensures.taken)

pub returns-clause-slot : goal.returns-clause-slot
returns-clause-slot g c = (c.in_ok-slot.ensures.slot (g.F.Folder.told c.args.folder.now) c.requires.dir).free c.in_ok-is_free.ensures.free
