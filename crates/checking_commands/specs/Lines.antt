-- The lines of a report as they are made of its findings by their numbers (private contracts only).
use Rattle.std.specs.Prelude.{ℕ, List, [], ◌∷◌, ◌++◌, codes}
use Rattle.std.specs.Fmt.{decimal}
use Rattle.std.specs.List.{flat_map}
use Rattle.folder_spec.specs.Path.{Path}
use Rattle.plain_tree.specs.Shown.{shown_path}
use Rattle.vault_walk.specs.declared.fault.Finding.{Finding}
use Rattle.vault_check.specs.declared.checking.Report.{Report}
use Rattle.command_answers.specs.Messages.{name_numbered}
use Rattle.checking_commands.specs.Fsck.{fault_part}
use Rattle.command_answers.specs.declared.answer.Answer.{Answer}
use Rattle.command_answers.specs.declared.answer.Answer.TheVariants.{Done, Findings}

abbrev pub found_line : Finding → List ℕ
found_line x = decimal x.number ++ 32 ∷ name_numbered x.number ++ 32 ∷ shown_path x.at ++ fault_part x.fault ++ 10 ∷ []

abbrev pub noted_line : Path → List ℕ
noted_line at = codes "14 EmptyOrphan " ++ shown_path at ++ 10 ∷ []

abbrev pub told_text : Report → List ℕ
told_text report = flat_map found_line report.findings.items ++ flat_map noted_line report.notes.items

abbrev pub answer_to_found : List Finding → Answer
answer_to_found [] = Done
answer_to_found (x ∷ found) = Findings
