use Rattle.std.proofs.Common.{None, ◌≡◌, Err, ap, refl, subst, sym, ◌∙◌}
use Rattle.std.proofs.KnownBytes.{Keeps-refl}
use Rattle.port_model.specs.Counts.{CountRose}
use Rattle.command_answers.specs.declared.answer.Answer.TheVariants.{InputFault, RandomFault}
use Rattle.open_for_reading.proofs.Carrying.{by_tests}
use Rattle.open_for_reading.proofs.Counts.{rose_after}
use Rattle.open_for_reading.specs.Tests.{is_of_beginning}
use Rattle.open_for_reading.specs.World.{World}
use Rattle.vault_write.specs.Faults.{IsFileFault}
use Rattle.writing_commands.specs.Put.{StoresFile, is_of_file}
use Rattle.writing_commands.proofs.MadeItems.{vault_unchanged}
use Rattle.writing_commands.proofs.Makings.{folder_failed, input_failed, random_failed}
use Rattle.writing_commands.proofs.StoredFiles.{StoresIt, file_made}
use Rattle.writing_commands.proofs.Rows.{put_carried}
use Rattle.writing_commands.proofs.storing.put.Goals as goal

pub returns-in-Ok : goal.returns-in-Ok
returns-in-Ok g c =
    let change = c.args.change.now in
    let answer = c.answer_to_making.result in
    let told = g.F.Folder.told c.args.folder.now in
    let told' = g.F.Folder.told c.put.new.folder in
    let stream = g.R.Randoms.left c.args.random.now in
    let stream' = g.R.Randoms.left c.put.new.random in
    let taken = g.O.Sink.taken c.args.out.now in
    let content = c.new-content.result in
    let content' = c.put.new.content in
    let before : World = record { told = told; left = g.I.Source.left content.source.now; ended = g.I.Source.ended content.source.now; taken = taken; random = stream } in
    let after : World = record { told = told'; left = g.I.Source.left content'.source.now; ended = g.I.Source.ended content'.source.now; taken = taken; random = stream' } in
    let first : World = record { told = told; left = g.I.Source.left c.args.input.now; ended = g.I.Source.ended c.args.input.now; taken = taken; random = stream } in
    let stored : StoresFile change answer before after =
    file_made change c.roots_show_their_own.ensures.outside c.roots_show_their_own.ensures.alike c.in-Ok.site.vault c.in-Ok.site.work answer c.put.result
    (g.F.Folder.told c.begin.new.folder) before after content.room.bytes content'.room.bytes content.room.passed content'.room.passed
    (g.met.F.Folder.sound c.args.folder.now) c.in-Ok.ensures.apart c.in-Ok.ensures.root c.in-Ok.ensures.work c.in-Ok.ensures.moments
    (g.met.F.Folder.sound c.begin.new.folder) c.in-Ok.ensures.leaves c.in-Ok.ensures.fresh
    c.in-Ok.ensures.opened c.in-Ok.ensures.entered c.answer_to_making.ensures c.new-content.ensures.room c.new-content.ensures.passed c.put.ensures.made c.put.ensures.fault c.put.ensures.taken (Keeps-refl taken) in
    -- the input that the content kept is the one that is given back
    let back : c.input-1.given.0 ≡ content'.source.now = c.input-1.given.1 (sym (c.put.ensures.lender ∙ c.new-content.ensures.lender)) in
    let now : World = record { told = told'; left = g.I.Source.left c.input-1.given.0; ended = g.I.Source.ended c.input-1.given.0; taken = taken; random = stream' } in
    put_carried change answer first now _ _ _ _
    (subst (λ source. StoresFile change answer first (record { told = told'; left = g.I.Source.left source; ended = g.I.Source.ended source; taken = taken; random = stream' })) (sym back)
    (subst (λ source. StoresFile change answer (record { told = told; left = g.I.Source.left source; ended = g.I.Source.ended source; taken = taken; random = stream }) after)
    c.new-content.ensures.source stored))
    (λ is. rose_after (g.F.Folder.faults c.args.folder.now) (g.F.Folder.faults c.begin.new.folder) (g.F.Folder.faults c.put.new.folder) c.in-Ok.ensures.grows
    (c.put.ensures.failed.1 (folder_failed (λ fault. IsFileFault None fault) (λ none. none) c.put.result c.put.ensures.fault (sym c.answer_to_making.ensures ∙ is))))
    (λ is. subst (λ source. CountRose (g.I.Source.faults c.args.input.now) (g.I.Source.faults source)) (sym back)
    (subst (λ source. CountRose (g.I.Source.faults source) (g.I.Source.faults content'.source.now)) c.new-content.ensures.source
    (c.put.ensures.source.1 (input_failed c.put.result (sym c.answer_to_making.ensures ∙ is)))))
    (λ is. c.put.ensures.random.1 (random_failed c.put.result (sym c.answer_to_making.ensures ∙ is)))

pub returns-in-Err : goal.returns-in-Err
returns-in-Err g c =
    let change = c.args.change.now in
    let before : World = record { told = g.F.Folder.told c.args.folder.now; left = g.I.Source.left c.args.input.now; ended = g.I.Source.ended c.args.input.now; taken = g.O.Sink.taken c.args.out.now; random = g.R.Randoms.left c.args.random.now } in
    let after : World = record before { told = g.F.Folder.told c.begin.new.folder } in
    put_carried change c.in-Err.answer before after _ _ _ _
    (vault_unchanged is_of_file change (StoresIt change c.in-Err.answer before after) c.in-Err.answer before after.told
    c.in-Err.ensures.overlapping c.in-Err.ensures.refused c.in-Err.ensures.own c.in-Err.ensures.moments c.in-Err.ensures.leaves)
    (λ is. c.in-Err.ensures.failed (ap Err is))
    (by_tests is_of_beginning c.in-Err.answer InputFault change.target.vault change.work _ (λ meet. (c.in-Err.ensures.overlapping meet).0) c.in-Err.ensures.own refl refl)
    (by_tests is_of_beginning c.in-Err.answer RandomFault change.target.vault change.work _ (λ meet. (c.in-Err.ensures.overlapping meet).0) c.in-Err.ensures.own refl refl)
