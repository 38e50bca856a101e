use Rattle.std.proofs.KnownBytes.{Keeps-refl}
use Rattle.open_for_reading.specs.World.{World}
use Rattle.writing_commands.proofs.MadeVaults.{made_apart, not_entered, vault_made_beside}
use Rattle.writing_commands.proofs.founding.make_apart.Goals as goal

pub returns-in-Ok-clause-makes : goal.returns-in-Ok-clause-makes
returns-in-Ok-clause-makes g c left ended taken =
    let before : World = record { told = g.F.Folder.told c.args.folder.now; left = left; ended = ended; taken = taken; random = g.R.Randoms.left c.args.random.now } in
    let after : World = record { told = g.F.Folder.told c.make_in.new.folder; left = left; ended = ended; taken = taken; random = g.R.Randoms.left c.make_in.new.random } in
    vault_made_beside c.args.new.now c.make_in.result before after c.requires.apart (Keeps-refl left) (Keeps-refl taken)
    (made_apart c.args.new.now c.args.phrase.now c.make_in.result (g.F.Folder.told c.enter_settled.new.folder) before after (g.met.F.Folder.sound c.args.folder.now) c.requires.apart
    c.in-Ok.ensures.moments (g.met.F.Folder.sound c.enter_settled.new.folder) c.in-Ok.ensures.leaves c.in-Ok.ensures.fresh c.requires.phrase c.in-Ok.ensures.entered c.make_in.ensures.cause c.make_in.ensures.made (Keeps-refl left))

pub returns-in-Err-clause-makes : goal.returns-in-Err-clause-makes
returns-in-Err-clause-makes g c left ended taken =
    let before : World = record { told = g.F.Folder.told c.args.folder.now; left = left; ended = ended; taken = taken; random = g.R.Randoms.left c.args.random.now } in
    let told = g.F.Folder.told c.enter_settled.new.folder in
    vault_made_beside c.args.new.now c.in-Err.answer before (record before { told = told }) c.requires.apart (Keeps-refl left) (Keeps-refl taken)
    (not_entered c.args.new.now c.args.phrase.now c.in-Err.answer before told c.in-Err.ensures.own c.in-Err.ensures.moments c.in-Err.ensures.leaves c.requires.phrase c.in-Err.ensures.refused)
