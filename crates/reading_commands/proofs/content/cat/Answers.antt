use Rattle.std.proofs.Common.{◌≡◌, ◌++◌, Ok, Err, sym, ap, ◌∙◌, refl, subst, inl, inr}
use Rattle.std.proofs.KnownBytes.{Keeps-refl}
use Rattle.std.proofs.lemmas.Bool.{or_left}
use Rattle.std.specs.Prelude.{MatchResult, IsTrue}
use Rattle.vault_read.specs.Contents.{IsCatFault, content_at}
use Rattle.vault_spec.specs.Format.{file_bytes}
use Rattle.vault_spec.specs.Vault.{format_of}
use Rattle.reading_commands.specs.Cat.{WritesFile, ShowsContent, ShowsContentFile, is_of_finding}
use Rattle.reading_commands.specs.Finding.{answer_to_finding}
use Rattle.open_for_reading.specs.Shown.{Reads, is_of_damage, is_of_opening, refused}
use Rattle.open_for_reading.specs.World.{World}
use Rattle.command_answers.specs.declared.answer.Answer.TheVariants.{Done, OutputFault}
use Rattle.reading_commands.proofs.Contents.{content_is_one, cat_reads, cat_fails, cat_unwritten, quiet_fault, written_or_cut}
use Rattle.open_for_reading.proofs.Counts.{rose_after}
use Rattle.open_for_reading.proofs.Printings.{is_another}
use Rattle.open_for_reading.proofs.Refusals.{unless_opened}
use Rattle.open_for_reading.proofs.Showing.{reads_refused}
use Rattle.reading_commands.proofs.Rows.{cat_carried}
use Rattle.reading_commands.proofs.content.cat.Goals as goal

pub returns-in-Err : goal.returns-in-Err
returns-in-Err g c =
    let before : World = record { told = g.F.Folder.told c.args.folder.now; left = g.I.Source.left c.args.input.now; ended = g.I.Source.ended c.args.input.now; taken = g.O.Sink.taken c.args.out.now; random = g.R.Randoms.left c.args.random.now } in
    let after : World = record { told = g.F.Folder.told c.open.new.folder; left = g.I.Source.left c.args.input.now; ended = g.I.Source.ended c.args.input.now; taken = g.O.Sink.taken c.args.out.now; random = g.R.Randoms.left c.args.random.now } in
    let target = c.args.target.now in
    let reads = reads_refused (ShowsContent target) c.in-Err.answer before.told after.told before.taken
    (content_is_one c.roots_have_one_answer.ensures target) c.in-Err.ensures.told (or_left (is_of_opening c.in-Err.answer) (is_of_damage c.in-Err.answer) c.in-Err.ensures.own)
    (λ v is. unless_opened v target.vault target.pass c.in-Err.answer
    (λ vault. MatchResult (content_at (format_of vault) target.vault v target.path)
    (λ at. ShowsContentFile (format_of vault).content (target.vault ++ at) (file_bytes (v (target.vault ++ at))) (refused c.in-Err.answer))
    (λ refusal. refused c.in-Err.answer ≡ refused (answer_to_finding target.vault refusal))) (c.in-Err.ensures.refused v is)) in
    let did : WritesFile c.args.target.now c.in-Err.answer before after = record {
      reads = reads;
      complete = written_or_cut c.roots_have_one_answer.ensures _ _ _ _ _ _ reads;
      quiet = λ finding. Keeps-refl before.taken;
      untouched = Keeps-refl before.left;
      undrawn = refl;
    } in
    cat_carried c.args.target.now c.in-Err.answer before after _ _ _ _ did (λ is. c.in-Err.ensures.failed (ap Err is)) (λ is. absurd (is_another is_of_opening c.in-Err.answer OutputFault c.in-Err.ensures.own refl is))

pub returns-in-Ok-cat : goal.returns-in-Ok-cat
returns-in-Ok-cat g c =
    let before : World = record { told = g.F.Folder.told c.args.folder.now; left = g.I.Source.left c.args.input.now; ended = g.I.Source.ended c.args.input.now; taken = g.O.Sink.taken c.args.out.now; random = g.R.Randoms.left c.args.random.now } in
    let after : World = record { told = g.F.Folder.told c.cat.new.folder; left = g.I.Source.left c.args.input.now; ended = g.I.Source.ended c.args.input.now; taken = g.O.Sink.taken c.cat.new.out; random = g.R.Randoms.left c.args.random.now } in
    let reads = cat_reads c.roots_have_one_answer.ensures c.what_is_found_stands.ensures.file c.args.target.now c.in-Ok.vault.root c.in-Ok.vault.vault (Ok c.in-Ok-cat.field-0)
    before.told (g.F.Folder.told c.open.new.folder) after.told before.taken after.taken
    c.in-Ok.ensures.root c.in-Ok.ensures.told c.in-Ok-cat.ensures.looks.told c.in-Ok.ensures.opened c.in-Ok-cat.ensures.cats in
    let did : WritesFile c.args.target.now Done before after = record {
      reads = reads;
      complete = written_or_cut c.roots_have_one_answer.ensures _ _ _ _ _ _ reads;
      quiet = λ finding. cc;
      untouched = Keeps-refl before.left;
      undrawn = refl;
    } in
    cat_carried c.args.target.now Done before after _ _ _ _ did (λ is. cc) (λ is. cc)

pub returns : goal.returns
returns g c =
    let before : World = record { told = g.F.Folder.told c.args.folder.now; left = g.I.Source.left c.args.input.now; ended = g.I.Source.ended c.args.input.now; taken = g.O.Sink.taken c.args.out.now; random = g.R.Randoms.left c.args.random.now } in
    let after : World = record { told = g.F.Folder.told c.cat.new.folder; left = g.I.Source.left c.args.input.now; ended = g.I.Source.ended c.args.input.now; taken = g.O.Sink.taken c.cat.new.out; random = g.R.Randoms.left c.args.random.now } in
    let reads = subst (λ answer. Reads (ShowsContent c.args.target.now) answer before.told after.told before.taken after.taken)
    (sym c.answer_to_cat.ensures)
    (cat_reads c.roots_have_one_answer.ensures c.what_is_found_stands.ensures.file c.args.target.now c.in-Ok.vault.root c.in-Ok.vault.vault (Err c.in-Err-cat.fault)
    before.told (g.F.Folder.told c.open.new.folder) after.told before.taken after.taken
    c.in-Ok.ensures.root c.in-Ok.ensures.told c.in-Err-cat.ensures.looks.told c.in-Ok.ensures.opened c.in-Err-cat.ensures.cats) in
    let did : WritesFile c.args.target.now c.answer_to_cat.result before after = record {
      reads = reads;
      complete = written_or_cut c.roots_have_one_answer.ensures _ _ _ _ _ _ reads;
      quiet = λ finding.
          quiet_fault c.in-Err-cat.fault before.taken after.taken
          (λ fault is. c.in-Err-cat.ensures.nothing fault (ap Err is)) (subst (λ answer. IsTrue (is_of_finding answer)) c.answer_to_cat.ensures finding);
      untouched = Keeps-refl before.left;
      undrawn = refl;
    } in
    cat_carried c.args.target.now c.answer_to_cat.result before after _ _ _ _ did
    (λ is. elim (cat_fails c.in-Err-cat.fault (sym c.answer_to_cat.ensures ∙ is)) [
      | inl failed ↦ rose_after (g.F.Folder.faults c.args.folder.now) (g.F.Folder.faults c.open.new.folder) (g.F.Folder.faults c.cat.new.folder)
          c.in-Ok.ensures.grows (c.in-Err-cat.ensures.looks.blames.rose (ap Err failed))
      | inr found ↦ absurd (subst IsCatFault found c.in-Err-cat.ensures.fault)
    ])
    (λ is. c.in-Err-cat.ensures.output.rose (ap Err (cat_unwritten c.in-Err-cat.fault (sym c.answer_to_cat.ensures ∙ is))))
