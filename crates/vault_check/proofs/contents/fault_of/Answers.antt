use Rattle.std.proofs.Common.{◌∙◌, ap}
use Rattle.std.proofs.lemmas.Result.{IfOk-weaker}
use Rattle.chunk_files.specs.Reading.{Wanting}
use Rattle.folder_spec.specs.Seen.{IfSeen}
use Rattle.vault_spec.specs.Vault.{format_of}
use Rattle.vault_check.specs.Contents.{EndsAs, StillEnds, ending_of}
use Rattle.vault_check.proofs.Endings.{ends_of}
use Rattle.vault_check.proofs.contents.fault_of.Goals as goal

pub first_fault-fault-requires : goal.first_fault-fault-requires
first_fault-fault-requires g c = λ v seen.
    let file = c.requires v seen in
    (file.0, ap v c.in_ok-reader.ensures.at ∙ file.1, c.in_ok-reader.ensures.suits file.0)

pub returns-clause-ending : goal.returns-clause-ending
returns-clause-ending g c =
    let told = g.F.Folder.told c.args.folder.now in
    let f = format_of c.args.vault.now.vault in
    let r = c.in_ok-reader.ensures in
    IfOk-weaker c.first_fault-fault.result (λ fault. IfSeen told (λ v. StillEnds v c.in_ok-reader.reader (ending_of fault))) (λ fault. IfSeen told (λ v. EndsAs f v c.args.at.now (ending_of fault)))
    (λ fault ends v seen. ends_of f v c.args.at.now c.in_ok-reader.reader (ending_of fault) r.at r.still (ends v seen)) c.first_fault-fault.ensures.ending

pub returns-clause-length : goal.returns-clause-length
returns-clause-length g c = λ named same.
    let r = c.in_ok-reader.ensures in
    let told = c.first_fault-fault.ensures.length named same in
    (told.0 ∙ r.at, λ v seen. ends_of (format_of c.args.vault.now.vault) v c.args.at.now c.in_ok-reader.reader Wanting r.at r.still (told.1 v seen))
