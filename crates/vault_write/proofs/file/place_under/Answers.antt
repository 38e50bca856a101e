use Rattle.std.proofs.Common.{◌+◌}
use Rattle.content_writing.proofs.Takings.{takes_none}
use Rattle.vault_spec.specs.Making.{NewFile}
use Rattle.vault_write.specs.Calls.{New, most_by}
use Rattle.vault_write.proofs.Exits.{place_drew}
use Rattle.vault_write.proofs.FileMade.{file_refused, placed_at}
use Rattle.vault_write.proofs.file.place_under.Goals as goal

pub returns-in_err-slot-clause-made : goal.returns-in_err-slot-clause-made
returns-in_err-slot-clause-made g c = file_refused New c.in_err-slot.field-0.0 c.from_residual.ensures.1 (place_drew c.in_err-slot.field-0.0 c.in_err-slot.ensures.kind) c.slot_at.ensures.told (λ content. c.in_err-slot.ensures.refused (NewFile content) c.args.work.now)

pub place_in-requires-clause-may : goal.place_in-requires-clause-may
place_in-requires-clause-may g c = rw c.slot_at.ensures.told c.requires.may

pub place_in-requires-clause-ready : goal.place_in-requires-clause-ready
place_in-requires-clause-ready g c = rw c.slot_at.ensures.told c.requires.ready

pub place_in-requires-clause-slot : goal.place_in-requires-clause-slot
place_in-requires-clause-slot g c = rw c.slot_at.ensures.told c.in_ok-slot.ensures.slot

pub returns-clause-made : goal.returns-clause-made
returns-clause-made g c = placed_at (g.C.Content.reads c.args.content.now) (g.C.Content.coming c.args.content.now) (g.C.Content.coming c.place_in.new.content) c.slot_at.ensures.told c.place_in.ensures.made

pub returns-in_err-slot-clause-taken : goal.returns-in_err-slot-clause-taken
returns-in_err-slot-clause-taken g c = takes_none (most_by c.from_residual.result (g.C.Content.room c.args.content.now + 1)) (g.C.Content.left c.args.content.now)
