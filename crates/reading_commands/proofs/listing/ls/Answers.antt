use Rattle.std.proofs.Common.{[], ◌∷◌, ◌∙◌, Err, ap, inl, inr, refl, string_bytes, subst, sym}
use Rattle.std.specs.Io.KnownBytes.{Appends}
use Rattle.std.proofs.KnownBytes.{Keeps-refl}
use Rattle.std.proofs.lemmas.List.{append-nil}
use Rattle.port_model.specs.Told.{AppendsPrefix}
use Rattle.reading_commands.specs.Ls.{ListsItems, ShowsItems}
use Rattle.reading_commands.proofs.Listings.{items_are_one, listed_or_cut}
use Rattle.command_answers.specs.declared.answer.Answer.TheVariants.{Done, OutputFault}
use Rattle.open_for_reading.specs.Shown.{is_refusal}
use Rattle.open_for_reading.specs.World.{World}
use Rattle.open_for_reading.proofs.Printings.{is_another}
use Rattle.open_for_reading.proofs.Showing.{reads_by, reads_refused}
use Rattle.reading_commands.proofs.Rows.{ls_carried}
use Rattle.reading_commands.proofs.listing.ls.Goals as goal

pub returns-in-Err : goal.returns-in-Err
returns-in-Err g c =
    let before : World = record { told = g.F.Folder.told c.args.folder.now; left = g.I.Source.left c.args.input.now; ended = g.I.Source.ended c.args.input.now; taken = g.O.Sink.taken c.args.out.now; random = g.R.Randoms.left c.args.random.now } in
    let after : World = record { told = g.F.Folder.told c.listing.new.folder; left = g.I.Source.left c.args.input.now; ended = g.I.Source.ended c.args.input.now; taken = g.O.Sink.taken c.args.out.now; random = g.R.Randoms.left c.args.random.now } in
    let reads = reads_refused (ShowsItems c.args.target.now) c.in-Err.answer before.told after.told before.taken
    (items_are_one c.roots_have_one_answer.ensures c.directories_have_one_list.ensures c.args.target.now) c.in-Err.ensures.told c.in-Err.ensures.own c.in-Err.ensures.refused in
    let did : ListsItems c.args.target.now c.in-Err.answer before after = record {
      reads = reads;
      complete = listed_or_cut c.roots_have_one_answer.ensures _ _ _ _ _ _ reads;
      quiet = inr (inr (Keeps-refl before.taken));
      untouched = Keeps-refl before.left;
      undrawn = refl;
    } in
    ls_carried c.args.target.now c.in-Err.answer before after _ _ _ _ did (λ is. c.in-Err.ensures.failed (ap Err is)) (λ is. absurd (is_another is_refusal c.in-Err.answer OutputFault c.in-Err.ensures.own refl is))

pub returns-in-Ok-put : goal.returns-in-Ok-put
returns-in-Ok-put g c =
    let before : World = record { told = g.F.Folder.told c.args.folder.now; left = g.I.Source.left c.args.input.now; ended = g.I.Source.ended c.args.input.now; taken = g.O.Sink.taken c.args.out.now; random = g.R.Randoms.left c.args.random.now } in
    let after : World = record { told = g.F.Folder.told c.listing.new.folder; left = g.I.Source.left c.args.input.now; ended = g.I.Source.ended c.args.input.now; taken = g.O.Sink.taken c.put.new.self; random = g.R.Randoms.left c.args.random.now } in
    let reads = reads_by (ShowsItems c.args.target.now) Done before.told after.told before.taken after.taken
    (items_are_one c.roots_have_one_answer.ensures c.directories_have_one_list.ensures c.args.target.now) c.in-Ok.ensures.told refl
    (λ v is. (
      record { pieces = string_bytes c.in-Ok.text ∷ []; answer = Done },
      c.in-Ok.ensures.text v is,
      refl,
      subst (Appends before.taken after.taken) (c.as_bytes.ensures.value ∙ sym (append-nil (string_bytes c.in-Ok.text))) c.in-Ok-put.ensures.whole,
    )) in
    let did : ListsItems c.args.target.now Done before after = record {
      reads = reads;
      complete = listed_or_cut c.roots_have_one_answer.ensures _ _ _ _ _ _ reads;
      quiet = inl refl;
      untouched = Keeps-refl before.left;
      undrawn = refl;
    } in
    ls_carried c.args.target.now Done before after _ _ _ _ did (λ is. cc) (λ is. cc)

pub returns : goal.returns
returns g c =
    let before : World = record { told = g.F.Folder.told c.args.folder.now; left = g.I.Source.left c.args.input.now; ended = g.I.Source.ended c.args.input.now; taken = g.O.Sink.taken c.args.out.now; random = g.R.Randoms.left c.args.random.now } in
    let after : World = record { told = g.F.Folder.told c.listing.new.folder; left = g.I.Source.left c.args.input.now; ended = g.I.Source.ended c.args.input.now; taken = g.O.Sink.taken c.put.new.self; random = g.R.Randoms.left c.args.random.now } in
    let reads = reads_by (ShowsItems c.args.target.now) OutputFault before.told after.told before.taken after.taken
    (items_are_one c.roots_have_one_answer.ensures c.directories_have_one_list.ensures c.args.target.now) c.in-Ok.ensures.told refl
    (λ v is. (
      record { pieces = string_bytes c.in-Ok.text ∷ []; answer = Done },
      c.in-Ok.ensures.text v is,
      subst (AppendsPrefix before.taken after.taken) (c.as_bytes.ensures.value ∙ sym (append-nil (string_bytes c.in-Ok.text))) c.in-Err-put.ensures.fault_takes_a_prefix,
    )) in
    let did : ListsItems c.args.target.now OutputFault before after = record {
      reads = reads;
      complete = listed_or_cut c.roots_have_one_answer.ensures _ _ _ _ _ _ reads;
      quiet = inr (inl refl);
      untouched = Keeps-refl before.left;
      undrawn = refl;
    } in
    ls_carried c.args.target.now OutputFault before after _ _ _ _ did (λ is. cc) (λ is. c.in-Err-put.ensures.fault_counted)
