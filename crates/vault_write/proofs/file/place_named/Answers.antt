use Rattle.std.proofs.Common.{◌+◌}
use Rattle.content_writing.proofs.Takings.{takes_none}
use Rattle.vault_spec.specs.Making.{NewFile}
use Rattle.vault_write.specs.Calls.{New, most_by}
use Rattle.vault_write.specs.Slots.{placing}
use Rattle.vault_write.proofs.Exits.{place_drew}
use Rattle.vault_write.proofs.FileMade.{file_refused, placed_at}
use Rattle.vault_write.proofs.Keeping.{kept_on}
use Rattle.vault_write.proofs.file.place_named.Goals as goal

pub returns-in_err-here-clause-made : goal.returns-in_err-here-clause-made
returns-in_err-here-clause-made g c =
    file_refused New c.in_err-here.field-0.0 c.from_residual.ensures.1 (place_drew c.in_err-here.field-0.0 c.in_err-here.ensures.kind) c.kept_or_entered.ensures.told (λ content. c.in_err-here.ensures.refused c.args.name.now (NewFile content) c.args.work.now)

pub place_under-result-requires-clause-dir : goal.place_under-result-requires-clause-dir
place_under-result-requires-clause-dir g c = rw c.kept_or_entered.ensures.told c.in_ok-here.ensures.place

pub place_under-result-requires-clause-may : goal.place_under-result-requires-clause-may
place_under-result-requires-clause-may g c = rw c.kept_or_entered.ensures.told c.requires.may

pub place_under-result-requires-clause-ready : goal.place_under-result-requires-clause-ready
place_under-result-requires-clause-ready g c = rw c.kept_or_entered.ensures.told c.requires.ready

pub returns-clause-made : goal.returns-clause-made
returns-clause-made g c =
    placed_at (g.C.Content.reads c.args.content.now) (g.C.Content.coming c.args.content.now) (g.C.Content.coming c.place_under-result.new.content) c.kept_or_entered.ensures.told c.place_under-result.ensures.made

pub returns-clause-kept : goal.returns-clause-kept
returns-clause-kept g c =
    let made = c.place_under-result.ensures.made in
    kept_on New (placing c.args.vault.now c.args.work.now c.args.front.now c.args.name.now (NewFile made.writing.content)) made.writing.ending made.writing.drawn
    (g.F.Folder.told c.kept_or_entered.new.folder) (g.F.Folder.told c.place_under-result.new.folder) c.in_ok-here.here c.place_under-result.result made.one
    c.in_ok-here.ensures.key c.in_ok-here.ensures.path (rw c.kept_or_entered.ensures.told c.in_ok-here.ensures.place)

pub returns-in_err-here-clause-taken : goal.returns-in_err-here-clause-taken
returns-in_err-here-clause-taken g c = takes_none (most_by c.from_residual.result (g.C.Content.room c.args.content.now + 1)) (g.C.Content.left c.args.content.now)
