-- What a check of a vault reports: all findings with the numbers 1 to 13, each damaged content with its first fault, and the notes. Paths
-- begin at the vault's root.
use Rattle.std.specs.Prelude.{◌≡◌, ◌≢◌, ◌↔◌, ◌<◌, ◌++◌, ℕ, List, map, length, Option, Some, None, IsTrue, AllPairs, Contains}
use Rattle.std.specs.declared.cmp.Ordering.TheVariants.{Less}
use Rattle.chunk_files.specs.declared.fault.ChunkFault.{ChunkFault}
use Rattle.chunk_files.specs.Reading.{Wanting}
use Rattle.folder_model.specs.Order.{path_cmp}
use Rattle.folder_spec.specs.Path.{Path}
use Rattle.folder_spec.specs.View.{View, FileOf}
use Rattle.vault_read.specs.Contents.{limited_reading}
use Rattle.vault_faults.specs.Limits.{content_limit}
use Rattle.vault_spec.specs.Findings.{IsFinding, IsDamaged, finding_of, is_fault_of_structure, number_of}
use Rattle.vault_spec.specs.Format.{Format, Directory}
use Rattle.vault_spec.specs.Reached.{IsReached}
use Rattle.vault_spec.specs.Standing.{File, standing_in}
use Rattle.vault_walk.specs.Survey.{FoundAt, Precedes, AreNotes}
use Rattle.vault_walk.specs.declared.fault.Finding.{Finding}
use Rattle.vault_check.specs.declared.checking.Report.{Report}

-- a finding with its path, and with the fault where it is of a damaged content
pub record Reported : Type 0 where
  pub found : FoundAt
  pub fault : Option ChunkFault

-- it is found in the vault: without a fault it makes the vault not clean, and with one it is that of a content file
abbrev pub IsReportedWith : Format → View → FoundAt → Option ChunkFault → Type 0
IsReportedWith f v x None = IsTrue (is_fault_of_structure x.finding) × IsFinding f v x.finding x.at
IsReportedWith f v x (Some fault) = (x.finding ≡ finding_of fault) × IsDamaged f v x.at fault

abbrev pub IsReported : Format → View → Reported → Type 0
IsReported f v x = IsReportedWith f v x.found x.fault

-- these are all such findings, by path, and at one path by number
pub record AreReported (f : Format) (v : View) (all : List Reported) : Type 0 where
  pub ordered : AllPairs (λ (x y : Reported). Precedes x.found y.found) all
  pub each : (x : Reported) → Contains all x ↔ IsReported f v x

abbrev pub told : Path → Reported → Finding
told root x = record { at = root ++ x.found.at; number = number_of x.found.finding; fault = x.fault }

-- the report of a vault behind a root
pub record IsReport (root : Path) (f : Format) (v : View) (report : Report) : Type 0 where
  pub all : List Reported
  pub notes : List Path
  pub are : AreReported f v all
  pub notes_are : AreNotes f v notes
  pub findings_told : report.findings.items ≡ map (told root) all
  pub notes_told : report.notes.items ≡ map (λ (at : Path). root ++ at) notes

-- the content file of an item in a reached folder has more bytes than are read, and no fault in those that are
pub record IsTooLong (f : Format) (v : View) (at : Path) : Type 0 where
  pub dir : Directory
  pub name : List ℕ
  pub reached : IsReached f v dir
  pub stands : standing_in f v dir name ≡ File at
  pub bytes : List ℕ
  pub there : v at ≡ FileOf bytes
  pub longer : content_limit < length bytes
  pub faultless : (limited_reading f.content bytes).ending ≡ Wanting

-- of such files the one whose path in the folder is first
pub record NamesTooLong (root : Path) (f : Format) (v : View) (named : Path) : Type 0 where
  pub at : Path
  pub place : named ≡ root ++ at
  pub is : IsTooLong f v at
  pub first : (other : Path) → IsTooLong f v other → path_cmp (root ++ other) named ≢ Less
