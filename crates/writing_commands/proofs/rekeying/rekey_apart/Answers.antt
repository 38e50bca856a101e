use Rattle.std.proofs.Common.{subst, sym}
use Rattle.std.proofs.KnownBytes.{Keeps-refl}
use Rattle.folder_spec.specs.Seen.{ShowsFilePlace}
use Rattle.folder_staging.specs.Places.{ArePlacesApart}
use Rattle.work_folder.specs.Setting.{staged_file}
use Rattle.open_for_reading.specs.World.{World}
use Rattle.passwd_core.specs.Rekeying.{ChangesPass}
use Rattle.writing_commands.proofs.RekeyedVaults.{apart_places, not_entered, rekeyed_apart, rekeyed_beside, stage_place}
use Rattle.writing_commands.proofs.rekeying.rekey_apart.Goals as goal

pub change_pass-requires-clause-stage : goal.change_pass-requires-clause-stage
change_pass-requires-clause-stage g c v is =
    subst (λ work. ShowsFilePlace v (staged_file work)) (sym c.in-Ok.ensures.path) (stage_place c.args.new.now.work v (c.in-Ok.ensures.ready v is))

pub change_pass-requires-clause-apart : goal.change_pass-requires-clause-apart
change_pass-requires-clause-apart g c =
    subst (λ work. ArePlacesApart work c.args.new.now.vault) (sym c.in-Ok.ensures.path) (apart_places c.args.new.now c.requires.apart)

pub returns-in-Ok-clause-changes : goal.returns-in-Ok-clause-changes
returns-in-Ok-clause-changes g c left ended taken =
    let new = c.args.new.now in
    let phrases = c.args.phrases.now in
    let views = c.images_show_views.ensures in
    let roots = c.roots_show_their_own.ensures in
    let stream = g.R.Randoms.left c.args.random.now in
    let stream' = g.R.Randoms.left c.change_pass.new.random in
    let entered = g.F.Folder.told c.enter_settled.new.folder in
    let told = g.F.Folder.told c.change_pass.new.folder in
    let before : World = record { told = g.F.Folder.told c.args.folder.now; left = left; ended = ended; taken = taken; random = stream } in
    let after : World = record { told = told; left = left; ended = ended; taken = taken; random = stream' } in
    let changes : ChangesPass new.work new.vault phrases.old phrases.new stream stream' entered told c.change_pass.result =
    subst (λ work. ChangesPass work new.vault phrases.old phrases.new stream stream' entered told c.change_pass.result) c.in-Ok.ensures.path
    (subst (λ phrase. ChangesPass c.in-Ok.work new.vault phrase phrases.new stream stream' entered told c.change_pass.result) c.as_slice.ensures
    (subst (λ new_phrase. ChangesPass c.in-Ok.work new.vault c.as_slice.result.now new_phrase stream stream' entered told c.change_pass.result) c.as_slice-in-Ok.ensures c.change_pass.ensures.changes)) in
    rekeyed_beside new c.answer_to_change.result before after c.requires.apart (Keeps-refl left) (Keeps-refl taken)
    (rekeyed_apart new phrases.old phrases.new c.answer_to_change.result entered before after (record { images = views.images; settled = views.settled; alike = roots.alike; outside = roots.outside })
    (g.met.F.Folder.sound c.args.folder.now) c.requires.apart c.in-Ok.ensures.moments c.in-Ok.ensures.leaves c.requires.old c.requires.new c.in-Ok.ensures.entered c.change_pass.result
    c.answer_to_change.ensures.answers c.answer_to_change.ensures.done changes)

pub returns-in-Err-clause-changes : goal.returns-in-Err-clause-changes
returns-in-Err-clause-changes g c left ended taken =
    let before : World = record { told = g.F.Folder.told c.args.folder.now; left = left; ended = ended; taken = taken; random = g.R.Randoms.left c.args.random.now } in
    let told = g.F.Folder.told c.enter_settled.new.folder in
    rekeyed_beside c.args.new.now c.in-Err.answer before (record before { told = told }) c.requires.apart (Keeps-refl left) (Keeps-refl taken)
    (not_entered c.args.new.now c.args.phrases.now.old c.args.phrases.now.new c.in-Err.answer before told c.in-Err.ensures.own c.in-Err.ensures.moments c.in-Err.ensures.leaves c.requires.old c.requires.new c.in-Err.ensures.refused)
