use Rattle.std.proofs.Common.{refl}
use Rattle.open_for_reading.specs.World.{World}
use Rattle.reading_commands.proofs.Decryptions.{decrypts}
use Rattle.reading_commands.proofs.Rows.{decrypt_carried}
use Rattle.reading_commands.proofs.decrypting.decrypt_file.Goals as goal

pub returns : goal.returns
returns g c =
    let key = c.args.key.now in
    let before : World = record { told = g.F.Folder.told c.args.folder.now; left = g.I.Source.left c.args.input.now; ended = g.I.Source.ended c.args.input.now; taken = g.O.Sink.taken c.args.out.now; random = g.R.Randoms.left c.args.random.now } in
    let after : World = record { told = g.F.Folder.told c.args.folder.now; left = g.I.Source.left c.decrypt.new.input; ended = g.I.Source.ended c.decrypt.new.input; taken = g.O.Sink.taken c.decrypt.new.out; random = g.R.Randoms.left c.args.random.now } in
    decrypt_carried key c.decrypt.result c.from.result before after _ _ _ _ c.from.ensures
    (decrypts c.files_are_what_they_give.ensures c.whole_files_end.ensures key c.decrypt.result before after c.decrypt.ensures.tells c.decrypt.ensures.writes
    c.decrypt.ensures.takes c.decrypt.ensures.near c.decrypt.ensures.end refl refl) c.decrypt.ensures.input_fault c.decrypt.ensures.output_fault
