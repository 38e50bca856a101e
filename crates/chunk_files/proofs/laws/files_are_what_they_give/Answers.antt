use Rattle.chunk_files.proofs.Sealing.{GcmLaws}
use Rattle.chunk_files.proofs.Tagging.{SealLaws}
use Rattle.chunk_files.proofs.FilesOf.{files_are_what_they_give}
use Rattle.chunk_files.proofs.laws.files_are_what_they_give.Goals as goal

pub returns : goal.returns
returns c =
    let sealing = c.sealed_texts_are_bytes.ensures in
    let gcm : GcmLaws = record { as_long = sealing.as_long; sixteen = sealing.sixteen; decrypted = c.unsealing_undoes_sealing.ensures.decrypted } in
    let laws : SealLaws = record { gcm = gcm; tag_size = c.digests_are_bytes.ensures.tag_size } in
    files_are_what_they_give laws
