-- Looking at a path.
use Rattle.std.proofs.Common.{◌≡◌, ℕ, Option, Some, None, Err, refl, sym, ◌∙◌}
use Rattle.port_model.specs.Counts.{CountRose}
use Rattle.folder_model.specs.Answers.{Answers, Counts}
use Rattle.folder_spec.specs.declared.FolderFault as folders
use Rattle.folder_spec.specs.declared.FolderFault.TheVariants as folder
use Rattle.folder_spec.specs.declared.Kind.{Kind}
use Rattle.folder_spec.specs.Path.{Path}
use Rattle.folder_spec.specs.Event.{Told}
use Rattle.folder_spec.specs.Seen.{seen}
use Rattle.folder_spec.specs.View.{kind_found}
use Rattle.command_answers.specs.Answers.{of_folder}
use Rattle.command_answers.specs.declared.answer.Answer.{Answer}
use Rattle.command_answers.specs.declared.answer.Answer.TheVariants.{FolderFault}

-- looking at a path names the folder as its cause only where the folder's count rose
pub kind_failed : (t : Option Told) (before after : ℕ) (at : Path) (fault : folders.FolderFault) (answer : Answer)
    → Answers {T = Kind} t (λ v. Unit {0}) (λ v kind. kind ≡ kind_found (v at)) (Err fault) → Counts {T = Kind} t before after (Err fault) → answer ≡ of_folder fault → answer ≡ FolderFault → CountRose before after
kind_failed t before after at folder.Failed answer answers counts is named = counts.1
kind_failed None before after at folder.Refused answer answers counts is named = counts.1
kind_failed (Some a) before after at folder.Refused answer answers counts is named = absurd (answers (seen a.state) refl tt)
kind_failed t before after at folder.NoMemory answer answers counts is named = let no = sym is ∙ named in cc
