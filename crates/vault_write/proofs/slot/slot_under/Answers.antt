use Rattle.std.proofs.Common.{[], Option}
use Rattle.folder_model.proofs.ByFault.{at_fault}
use Rattle.folder_spec.specs.Event.{Told}
use Rattle.vault_spec.specs.Making.{NewItem, Allows}
use Rattle.vault_spec.specs.Vault.{format_of}
use Rattle.vault_write.specs.Calls.{IsAt}
use Rattle.vault_write.specs.Filing.{IsOverFault}
use Rattle.vault_write.specs.Slots.{RefusesItem}
use Rattle.vault_write.proofs.Found.{not_allowed, slot_found, slot_taken}
use Rattle.vault_write.proofs.PutMade.{not_allowed_over}
use Rattle.vault_write.proofs.slot.slot_under.Goals as goal

pub returns-in_err-allow-clause-refused : goal.returns-in_err-allow-clause-refused
returns-in_err-allow-clause-refused c =
    at_fault c.from_residual.result (λ fault. (told : Option Told) → IsAt c.args.vault.now c.args.front.now c.args.dir.now told → (item : NewItem) → RefusesItem c.args.vault.now c.args.front.now c.args.name.now item [] told fault) c.in_err-allow.field-0.0
    c.from_residual.ensures.1
    (λ told at item. not_allowed c.what_is_found_stands.ensures.enters c.args.vault.now c.args.front.now c.args.name.now c.args.path.now c.args.dir.now told item c.in_err-allow.field-0.0 c.requires.path at c.in_err-allow.ensures.refused)

pub returns-in_err-allow-clause-over : goal.returns-in_err-allow-clause-over
returns-in_err-allow-clause-over c = at_fault c.from_residual.result (λ fault. (told : Option Told) → IsOverFault c.args.vault.now c.args.front.now told fault) c.in_err-allow.field-0.0 c.from_residual.ensures.1
    (λ told. not_allowed_over c.args.vault.now c.args.front.now told c.args.path.now (¬ Allows (format_of c.args.vault.now.vault) c.args.name.now) c.in_err-allow.field-0.0 c.in_err-allow.ensures.refused)

pub returns-clause-slot : goal.returns-clause-slot
returns-clause-slot c told at = record {
  allowed = c.in_ok-allow.ensures.allowed;
  free = slot_found c.what_is_found_stands.ensures.enters c.args.vault.now c.args.front.now c.args.name.now c.args.dir.now told at
      c.in_ok-slot_in.field-0.at c.in_ok-slot_in.field-0.side c.in_ok-slot_in.field-0.full c.in_ok-allow.ensures.allowed c.in_ok-slot_in.ensures.at c.in_ok-slot_in.ensures.side c.in_ok-slot_in.ensures.full;
  taken = λ item fault taken. slot_taken c.what_is_found_stands.ensures.enters c.args.vault.now c.args.front.now c.args.name.now c.args.dir.now told at
      c.in_ok-slot_in.field-0.at c.in_ok-slot_in.field-0.side c.in_ok-slot_in.field-0.full c.in_ok-allow.ensures.allowed c.in_ok-slot_in.ensures.at c.in_ok-slot_in.ensures.side c.in_ok-slot_in.ensures.full item fault taken;
}
