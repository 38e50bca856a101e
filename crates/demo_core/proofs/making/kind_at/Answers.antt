use Rattle.std.proofs.Common.{◌≡◌, ℕ, Option, Some, None, Err, refl, subst}
use Rattle.folder_model.specs.Answers.{Answers, Counts}
use Rattle.folder_spec.specs.declared.Kind.{Kind}
use Rattle.folder_spec.specs.declared.FolderFault.TheVariants.{Refused}
use Rattle.folder_spec.specs.Event.{Told}
use Rattle.folder_spec.specs.Path.{Path}
use Rattle.folder_spec.specs.Seen.{seen}
use Rattle.folder_spec.specs.View.{kind_found}
use Rattle.port_model.specs.Counts.{CountRose}
use Rattle.demo_core.proofs.making.kind_at.Goals as goal

-- looking at a path is refused only by a folder that tells nothing, whose count rose
refused : (t : Option Told) (before after : ℕ) (at : Path) → Answers {T = Kind} t (λ v. Unit {0}) (λ v kind. kind ≡ kind_found (v at)) (Err Refused) → Counts {T = Kind} t before after (Err Refused) → CountRose before after
refused None before after at answers counts = counts.1
refused (Some a) before after at answers counts = absurd (answers (seen a.state) refl tt)

pub returns-in-Err-Refused-clause-failed : goal.returns-in-Err-Refused-clause-failed
returns-in-Err-Refused-clause-failed g c = λ is.
    let told = g.F.Folder.told c.args.folder.now in
    let before = g.F.Folder.faults c.args.folder.now in
    let after = g.F.Folder.faults c.kind.new.self in
    refused told before after c.args.at.now
    (subst (λ fault. Answers {T = Kind} told (λ v. Unit {0}) (λ v kind. kind ≡ kind_found (v c.args.at.now)) (Err fault)) c.in-Err-Refused.field-0-is c.in-Err-Refused.ensures.answer)
    (subst (λ fault. Counts {T = Kind} told before after (Err fault)) c.in-Err-Refused.field-0-is c.in-Err-Refused.ensures.counts)
