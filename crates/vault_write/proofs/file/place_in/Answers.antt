use Rattle.std.proofs.Common.{◌+◌, refl}
use Rattle.content_writing.proofs.Takings.{takes_none}
use Rattle.item_making.specs.declared.fault.PutFault.TheVariants as puts
use Rattle.vault_write.specs.Calls.{New, most_by}
use Rattle.vault_write.proofs.FileMade.{file_refused}
use Rattle.vault_write.proofs.file.place_in.Goals as goal

pub returns-in_err-buffers-clause-made : goal.returns-in_err-buffers-clause-made
returns-in_err-buffers-clause-made g c = file_refused New puts.NoMemory c.from_residual.ensures.1 (λ same. cc same) refl (λ content ending v is. tt)

pub returns-in_err-buffers-clause-taken : goal.returns-in_err-buffers-clause-taken
returns-in_err-buffers-clause-taken g c = takes_none (most_by c.from_residual.result (g.C.Content.room c.args.content.now + 1)) (g.C.Content.left c.args.content.now)
