use Rattle.std.proofs.Common.{◌+◌, Some, None, sym, subst, ◌∙◌}
use Rattle.folder_spec.specs.Seen.{IfSeen, under}
use Rattle.content_writing.proofs.Takings.{takes_none}
use Rattle.vault_spec.specs.Making.{NewFile}
use Rattle.vault_spec.specs.Standing.{standing}
use Rattle.vault_spec.specs.Vault.{format_of}
use Rattle.vault_write.specs.Calls.{InPlace, most_by}
use Rattle.vault_write.specs.Filing.{IsAtDirectory, StandsAs}
use Rattle.vault_write.proofs.Counted.{directory_is_place_fault}
use Rattle.vault_write.proofs.Exits.{place_drew}
use Rattle.vault_write.proofs.FileMade.{file_refused, placed_at}
use Rattle.vault_write.proofs.PutMade.{directory_refused, over_refused, put_new, stands_then}
use Rattle.vault_write.proofs.file.put_named.Goals as goal

pub returns-in_err-slot-clause-made : goal.returns-in_err-slot-clause-made
returns-in_err-slot-clause-made g c =
    file_refused InPlace c.in_err-slot.field-0.0 c.from_residual.ensures.1 (place_drew c.in_err-slot.field-0.0 c.in_err-slot.ensures.kind) c.slot_over.ensures.told
    (λ content. over_refused c.what_is_found_stands.ensures.enters c.args.vault.now c.args.work.now c.args.front.now c.args.name.now content (g.F.Folder.told c.args.folder.now) c.in_err-slot.field-0.0 (c.in_err-slot.ensures.refused (NewFile content)) c.in_err-slot.ensures.over)

pub returns-in_err-at-clause-made : goal.returns-in_err-at-clause-made
returns-in_err-at-clause-made g c =
    file_refused InPlace c.in_err-at.field-0.0 c.from_residual-in_err-at.ensures.1 (place_drew c.in_err-at.field-0.0 (directory_is_place_fault c.args.vault.now c.args.path.now (g.F.Folder.told c.slot_over.new.folder) c.in_err-at.field-0.0 c.in_err-at.ensures.fault)) (c.standing_file.ensures.told ∙ c.slot_over.ensures.told)
    (λ content. directory_refused c.args.vault.now c.args.work.now c.args.path.now c.args.front.now c.args.name.now content (g.F.Folder.told c.args.folder.now) c.in_err-at.field-0.0 c.requires.path c.in_ok-slot.ensures.slot.allowed
    (subst (λ o. IsAtDirectory c.args.vault.now c.args.path.now o c.in_err-at.field-0.0) c.slot_over.ensures.told c.in_err-at.ensures.fault))

pub replace-requires-clause-may : goal.replace-requires-clause-may
replace-requires-clause-may g c = rw (c.standing_file.ensures.told ∙ c.slot_over.ensures.told) c.requires.may

pub replace-requires-clause-stands : goal.replace-requires-clause-stands
replace-requires-clause-stands g c =
    stands_then c.args.vault.now c.args.path.now c.args.front.now c.args.name.now (Some c.in-Some.at) (g.F.Folder.told c.slot_over.new.folder) (g.F.Folder.told c.standing_file.new.folder) c.requires.path c.standing_file.ensures.told
    (subst (λ file. IfSeen (g.F.Folder.told c.slot_over.new.folder) (λ v. StandsAs c.args.vault.now.root (standing (format_of c.args.vault.now.vault) (under c.args.vault.now.root v) c.args.path.now) file)) c.in-Some.is c.in_ok-at.ensures.file)

pub replace-requires-clause-ready : goal.replace-requires-clause-ready
replace-requires-clause-ready g c = rw (c.standing_file.ensures.told ∙ c.slot_over.ensures.told) c.requires.ready

pub returns-in-Some-clause-made : goal.returns-in-Some-clause-made
returns-in-Some-clause-made g c = placed_at (g.C.Content.reads c.args.content.now) (g.C.Content.coming c.args.content.now) (g.C.Content.coming c.replace.new.content) (c.standing_file.ensures.told ∙ c.slot_over.ensures.told) c.replace.ensures.made

pub place_over-requires-clause-may : goal.place_over-requires-clause-may
place_over-requires-clause-may g c = rw (c.standing_file.ensures.told ∙ c.slot_over.ensures.told) c.requires.may

pub place_over-requires-clause-slot : goal.place_over-requires-clause-slot
place_over-requires-clause-slot g c = rw (c.standing_file.ensures.told ∙ c.slot_over.ensures.told) c.in_ok-slot.ensures.slot

pub place_over-requires-clause-ready : goal.place_over-requires-clause-ready
place_over-requires-clause-ready g c = rw (c.standing_file.ensures.told ∙ c.slot_over.ensures.told) c.requires.ready

pub returns-clause-made : goal.returns-clause-made
returns-clause-made g c =
    put_new
    (stands_then c.args.vault.now c.args.path.now c.args.front.now c.args.name.now None (g.F.Folder.told c.slot_over.new.folder) (g.F.Folder.told c.args.folder.now) c.requires.path (sym c.slot_over.ensures.told)
    (subst (λ file. IfSeen (g.F.Folder.told c.slot_over.new.folder) (λ v. StandsAs c.args.vault.now.root (standing (format_of c.args.vault.now.vault) (under c.args.vault.now.root v) c.args.path.now) file)) c.in-None.is c.in_ok-at.ensures.file))
    (placed_at (g.C.Content.reads c.args.content.now) (g.C.Content.coming c.args.content.now) (g.C.Content.coming c.place_over.new.content) (c.standing_file.ensures.told ∙ c.slot_over.ensures.told) c.place_over.ensures.made)

pub returns-in_err-slot-clause-taken : goal.returns-in_err-slot-clause-taken
returns-in_err-slot-clause-taken g c = takes_none (most_by c.from_residual.result (g.C.Content.room c.args.content.now + 1)) (g.C.Content.left c.args.content.now)

pub returns-in_err-at-clause-taken : goal.returns-in_err-at-clause-taken
returns-in_err-at-clause-taken g c = takes_none (most_by c.from_residual-in_err-at.result (g.C.Content.room c.args.content.now + 1)) (g.C.Content.left c.args.content.now)
