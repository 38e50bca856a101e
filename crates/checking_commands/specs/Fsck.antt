-- `fsck`: what is found in a vault, each finding in a line, and then the notes.
use Rattle.std.specs.Prelude.{◌≡◌, ◌↔◌, ◌⊎◌, ℕ, Bool, true, List, [], ◌∷◌, ◌++◌, codes, Option, Some, None, IsTrue}
use Rattle.std.specs.Fmt.{decimal}
use Rattle.std.specs.Io.KnownBytes.{Keeps}
use Rattle.std.specs.List.{flat_map}
use Rattle.chunk_files.specs.Fault.{fault_text}
use Rattle.chunk_files.specs.declared.fault.ChunkFault.{ChunkFault}
use Rattle.folder_spec.specs.Path.{Path}
use Rattle.folder_spec.specs.Seen.{IfSeen, IsSeen, under}
use Rattle.folder_spec.specs.View.{View}
use Rattle.plain_tree.specs.Shown.{shown_path}
use Rattle.vault_spec.specs.Findings.{number_of}
use Rattle.vault_spec.specs.Format.{Format}
use Rattle.vault_spec.specs.Vault.{Vault, format_of}
use Rattle.vault_spec.specs.declared.Finding.{Finding}
use Rattle.vault_spec.specs.declared.Finding.TheVariants as is
use Rattle.vault_walk.specs.Survey.{AreNotes, HasTooMany}
use Rattle.vault_walk.specs.Surveyed.{IsOnlyTooDeep, IsWithin}
use Rattle.vault_check.specs.Checking.{Reported, IsReported, AreReported, IsTooLong, NamesTooLong}
use Rattle.command_answers.specs.Answers.{status_of}
use Rattle.open_for_reading.specs.Opening.{Opens, OfOpened}
use Rattle.open_for_reading.specs.Shown.{Shown, Follows, IsCutShort, is_of_opening, refused}
use Rattle.open_for_reading.specs.World.{World}
use Rattle.command_answers.specs.declared.answer.Answer.{Answer}
use Rattle.command_answers.specs.declared.answer.Answer.TheVariants.{Done, Findings, FolderFault, OutputFault, Limit}
use Rattle.command_answers.specs.declared.answer.Limit.TheVariants as limit
use Rattle.command_words.specs.declared.commands.Checking.{Checking}

abbrev pub finding_name : Finding → List ℕ
finding_name is.BadStoredName = codes "BadStoredName"
finding_name is.NoDirKey = codes "NoDirKey"
finding_name is.LongNameLost = codes "LongNameLost"
finding_name is.OrphanLongName = codes "OrphanLongName"
finding_name is.DirIdTwice = codes "DirIdTwice"
finding_name is.NoFolder = codes "NoFolder"
finding_name is.OrphanFolder = codes "OrphanFolder"
finding_name is.SymlinkFound = codes "SymlinkFound"
finding_name is.WrongKind = codes "WrongKind"
finding_name is.ExtraEntry = codes "ExtraEntry"
finding_name is.TwoKinds = codes "TwoKinds"
finding_name is.HeaderDamaged = codes "HeaderDamaged"
finding_name is.ChunkDamaged = codes "ChunkDamaged"
finding_name is.EmptyOrphan = codes "EmptyOrphan"

-- a space and the fault of a damaged content
abbrev pub fault_part : Option ChunkFault → List ℕ
fault_part None = []
fault_part (Some fault) = 32 ∷ fault_text fault

-- the number of the finding, its name, the shown path of the folder, the fault if there is one, and a newline
abbrev pub finding_line : Path → Reported → List ℕ
finding_line root x =
    decimal (number_of x.found.finding) ++ 32 ∷ finding_name x.found.finding ++ 32 ∷ shown_path (root ++ x.found.at) ++ fault_part x.fault ++ 10 ∷ []

abbrev pub note_line : Path → Path → List ℕ
note_line root at = codes "14 EmptyOrphan " ++ shown_path (root ++ at) ++ 10 ∷ []

abbrev pub report_text : Path → List Reported → List Path → List ℕ
report_text root all notes = flat_map (finding_line root) all ++ flat_map (note_line root) notes

-- The lines of all findings and of all notes of a vault that passes no limit. The answer is `Findings` exactly where there is a finding,
-- and else `Done`.
pub record IsReportOf (root : Path) (f : Format) (v : View) (shown : Shown) : Type 0 where
  pub all : List Reported
  pub notes : List Path
  pub are : AreReported f v all
  pub notes_are : AreNotes f v notes
  pub text : shown.pieces ≡ report_text root all notes ∷ []
  pub answers : (shown.answer ≡ Done) ⊎ (shown.answer ≡ Findings)
  pub found : (shown.answer ≡ Findings) ↔ ((x : Reported) × IsReported f v x)
  pub within : IsWithin f v
  pub short : (at : Path) → ¬ IsTooLong f v at

-- what is shown of a vault: all that is found, or a limit that it passes
pub data ShowsVault (root : Path) (f : Format) (v : View) (shown : Shown) : Type 0 where
  Whole : IsReportOf root f v shown → ShowsVault root f v shown
  TooMany : HasTooMany f v → shown ≡ refused (Limit limit.Items) → ShowsVault root f v shown
  TooDeep : IsOnlyTooDeep f v → shown ≡ refused (Limit limit.Depth) → ShowsVault root f v shown
  TooLong : (at : Path) → NamesTooLong root f v at → IsWithin f v → shown ≡ refused (Limit (limit.Length at)) → ShowsVault root f v shown

-- what `fsck` shows
abbrev pub ShowsReport : Checking → View → Shown → Type 0
ShowsReport target v shown = OfOpened v target.vault target.pass shown (λ vault. ShowsVault target.vault (format_of vault) (under target.vault v) shown)

-- whether `fsck` may answer so
abbrev pub is_of_checking : Answer → Bool
is_of_checking Done = true
is_of_checking Findings = true
is_of_checking OutputFault = true
is_of_checking answer = is_of_opening answer

-- the root and the passphrase are this vault, which passes no limit
pub record OpensWithin (target : Checking) (v : View) (vault : Vault) : Type 0 where
  pub opens : Opens v target.vault target.pass vault
  pub within : IsWithin (format_of vault) (under target.vault v)
  pub short : (at : Path) → ¬ IsTooLong (format_of vault) (under target.vault v) at

-- `fsck`, which writes nothing before all is known, takes nothing of the input, draws nothing and changes nothing. Its status is what is
-- shown, unless it is cut short; and where the vault passes no limit, that is 0 or 1.
pub record ChecksVault (target : Checking) (answer : Answer) (before after : World) : Type 0 where
  pub unchanged : after.told ≡ before.told
  pub own : IsTrue (is_of_checking answer)
  pub follows : IfSeen before.told (λ v. Follows (ShowsReport target v) answer before.taken after.taken)
  pub exactly : (v : View) (shown : Shown) → IsSeen before.told v → ShowsReport target v shown → (status_of answer ≡ status_of shown.answer) ⊎ IsCutShort answer
  pub complete : (v : View) (vault : Vault) → IsSeen before.told v → OpensWithin target v vault → ((answer ≡ Done) ⊎ (answer ≡ Findings)) ⊎ IsCutShort answer
  pub quiet : answer ≡ FolderFault → Keeps before.taken after.taken
  pub untouched : Keeps before.left after.left
  pub undrawn : after.random ≡ before.random
