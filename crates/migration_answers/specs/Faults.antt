-- The answers to what stops a migration, or keeps its source from being removed.
use Rattle.folder_spec.specs.Path.{Path}
use Rattle.migrate_core.specs.declared.fault.MoveFault.{MoveFault}
use Rattle.migrate_core.specs.declared.fault.MoveFault.TheVariants as move
use Rattle.work_folder.specs.Entries.{journal_path}
use Rattle.move_journal.specs.declared.journal.JournalFault.{JournalFault}
use Rattle.move_journal.specs.declared.journal.JournalFault.TheVariants as journal
use Rattle.retire_core.specs.declared.fault.RetireFault.{RetireFault}
use Rattle.retire_core.specs.declared.fault.RetireFault.TheVariants as retire
use Rattle.tree_match.specs.declared.answer.MatchFault.{MatchFault}
use Rattle.tree_match.specs.declared.answer.MatchFault.TheVariants as match
use Rattle.tree_match.specs.declared.answer.Where.{Where}
use Rattle.tree_match.specs.declared.answer.Where.TheVariants as differs
use Rattle.vault_walk.specs.declared.fault.WalkFault.{WalkFault}
use Rattle.vault_walk.specs.declared.fault.WalkFault.TheVariants as walk
use Rattle.command_answers.specs.declared.answer.Answer.{Answer}
use Rattle.command_answers.specs.declared.answer.Answer.TheVariants.{OutOfMemory, FolderFault, Damaged, NotAllowed, NotClean, Overlap, NotEmpty, Unusable, Changed, Differ, Limit, Retired, Meet}
use Rattle.command_answers.specs.declared.answer.Difference.{Difference}
use Rattle.command_answers.specs.declared.answer.Difference.TheVariants as difference
use Rattle.command_answers.specs.declared.answer.Damage.TheVariants as damage
use Rattle.command_answers.specs.declared.answer.Flaw.TheVariants as flaw
use Rattle.command_answers.specs.declared.answer.Limit.TheVariants as limit
use Rattle.open_for_reading.specs.Faults.{of_limit, of_load}
use Rattle.open_for_changing.specs.Faults.{of_put, of_work}

abbrev pub of_walk : WalkFault → Answer
of_walk (walk.NotClean finding) = NotClean finding.at finding.number
of_walk (walk.Limit which) = Limit (of_limit which)
of_walk walk.Failed = FolderFault
of_walk walk.NoMemory = OutOfMemory

abbrev pub of_where : Where → Difference
of_where differs.Missing = difference.Missing
of_where differs.Kind = difference.Kind
of_where differs.Content = difference.Content
of_where differs.Extra = difference.Extra

abbrev pub of_match : MatchFault → Answer
of_match (match.Damaged at fault) = Damaged at (damage.Content fault)
of_match (match.Limit which) = Limit (of_limit which)
of_match match.Failed = FolderFault
of_match match.NoMemory = OutOfMemory

-- of the journal in a work folder
abbrev pub of_journal : Path → JournalFault → Answer
of_journal work journal.NoJournal = Unusable work flaw.Missing
of_journal work (journal.BadJournal number) = Unusable work (flaw.Line number)
of_journal work journal.TooLarge = Limit (limit.Length (journal_path work))
of_journal work journal.Failed = FolderFault
of_journal work journal.NoMemory = OutOfMemory

-- of a migration through this work folder; `root` is that of the vault that isn't opened
abbrev pub of_move : Path → Path → MoveFault → Answer
of_move work root (move.Work fault) = of_work work fault
of_move work root (move.Journal fault) = of_journal work fault
of_move work root (move.Overlap first second) = Overlap first second
of_move work root (move.Load side fault) = of_load root fault
of_move work root (move.Walk fault) = of_walk fault
of_move work root (move.NotEmpty at) = NotEmpty at
of_move work root (move.NotAllowed path) = NotAllowed path
of_move work root (move.Meet one other) = Meet one other
of_move work root (move.Changed plan items plan' items') = Changed plan items plan' items'
of_move work root (move.Match fault) = of_match fault
of_move work root (move.Differ path how) = Differ path (of_where how)
of_move work root (move.Place fault) = of_put fault
of_move work root move.SourceGone = Retired work
of_move work root move.Failed = FolderFault
of_move work root move.NoMemory = OutOfMemory

-- of retiring the source of the migration in this work folder; `root` is that of the vault that isn't opened
abbrev pub of_retire : Path → Path → RetireFault → Answer
of_retire work root (retire.Work fault) = of_work work fault
of_retire work root (retire.Journal fault) = of_journal work fault
of_retire work root retire.Unfinished = Unusable work flaw.Building
of_retire work root (retire.Overlap first second) = Overlap first second
of_retire work root (retire.Load side fault) = of_load root fault
of_retire work root (retire.Walk fault) = of_walk fault
of_retire work root (retire.NotAllowed path) = NotAllowed path
of_retire work root (retire.Meet one other) = Meet one other
of_retire work root (retire.Match fault) = of_match fault
of_retire work root (retire.Differ path how) = Differ path (of_where how)
of_retire work root retire.Depth = Limit limit.Removal
of_retire work root retire.Failed = FolderFault
of_retire work root retire.NoMemory = OutOfMemory
