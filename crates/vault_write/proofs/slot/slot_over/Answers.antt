use Rattle.std.proofs.Common.{[]}
use Rattle.folder_model.proofs.ByFault.{at_fault}
use Rattle.vault_spec.specs.Making.{NewItem}
use Rattle.vault_write.specs.Filing.{IsOverFault}
use Rattle.vault_write.specs.Slots.{RefusesItem}
use Rattle.vault_write.proofs.slot.slot_over.Goals as goal

pub returns-in_err-here-clause-refused : goal.returns-in_err-here-clause-refused
returns-in_err-here-clause-refused g c =
    at_fault c.from_residual.result (λ fault. (item : NewItem) → RefusesItem c.args.vault.now c.args.front.now c.args.name.now item [] (g.F.Folder.told c.args.folder.now) fault) c.in_err-here.field-0.0
    c.from_residual.ensures.1 (λ item. c.in_err-here.ensures.refused c.args.name.now item)

pub returns-in_err-here-clause-over : goal.returns-in_err-here-clause-over
returns-in_err-here-clause-over g c = at_fault c.from_residual.result (IsOverFault c.args.vault.now c.args.front.now (g.F.Folder.told c.args.folder.now)) c.in_err-here.field-0.0 c.from_residual.ensures.1 c.in_err-here.ensures.over

pub returns-in_err-slot_under-clause-refused : goal.returns-in_err-slot_under-clause-refused
returns-in_err-slot_under-clause-refused g c =
    at_fault c.from_residual-in_err-slot_under.result (λ fault. (item : NewItem) → RefusesItem c.args.vault.now c.args.front.now c.args.name.now item [] (g.F.Folder.told c.args.folder.now) fault) c.in_err-slot_under.field-0.0
    c.from_residual-in_err-slot_under.ensures.1 (c.in_err-slot_under.ensures.refused (g.F.Folder.told c.args.folder.now) c.in_ok-here.ensures.place)

pub returns-in_err-slot_under-clause-over : goal.returns-in_err-slot_under-clause-over
returns-in_err-slot_under-clause-over g c = at_fault c.from_residual-in_err-slot_under.result (IsOverFault c.args.vault.now c.args.front.now (g.F.Folder.told c.args.folder.now)) c.in_err-slot_under.field-0.0 c.from_residual-in_err-slot_under.ensures.1
    (c.in_err-slot_under.ensures.over (g.F.Folder.told c.args.folder.now))

pub returns-clause-slot : goal.returns-clause-slot
returns-clause-slot g c = c.in_ok-slot_under.ensures.slot (g.F.Folder.told c.args.folder.now) c.in_ok-here.ensures.place
