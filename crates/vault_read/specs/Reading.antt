-- Words of private contracts: a decoder that is fed the bytes of a file.
use Rattle.std.specs.Prelude.{◌≡◌, ◌⊎◌, ℕ, ◌≤◌, ◌<◌, true, List, ◌++◌, length, take, Option, Result, Ok, Err}
use Rattle.std.specs.List.{concat}
use Rattle.std.specs.Io.KnownBytes.{Appends}
use Rattle.folder_spec.specs.Path.{Path}
use Rattle.folder_spec.specs.Seen.{ShowsFile, under}
use Rattle.folder_spec.specs.View.{View}
use Rattle.plain_tree.specs.Names as plain
use Rattle.vault_spec.specs.Format.{Format}
use Rattle.vault_spec.specs.Standing.{File, standing}
use Rattle.folder_spec.specs.declared.FolderFault.{FolderFault}
use Rattle.chunk_files.specs.Reading.{Reading, Whole, Wanting, Faulty, chunk_before}
use Rattle.chunk_files.specs.Decoding.{Decoding, chunks_before}
use Rattle.vault_read.specs.Contents.{Suits, Passes, Stops, still}
use Rattle.vault_faults.specs.Limits.{content_limit}
use Rattle.vault_faults.specs.declared.fault.CatFault.{CatFault}
use Rattle.vault_faults.specs.declared.fault.CatFault.TheVariants.{Damaged, Limit, NoMemory}
use Rattle.vault_faults.specs.declared.fault.Limit.TheVariants.{Length}
use Rattle.vault_read.specs.declared.reader.Given.{Given}
use Rattle.vault_read.specs.declared.reader.Given.TheVariants.{Bytes, End, Damage, PastLimit}

-- as many bytes were taken as are counted, and no more than the limit
pub record IsInStep (count : ℕ) (d : Decoding) : Type 0 where
  pub same : count ≡ d.taken
  pub within : count ≤ content_limit

-- what a decoder was fed is of these bytes, of which as much is still to come
pub record FeedsOn (bytes : List ℕ) (d d' : Decoding) : Type 0 where
  pub suits : Suits d' bytes
  pub same : still d bytes ≡ still d' bytes

-- chunks without bytes of the file were passed over, perhaps none
pub record PassesOver (bytes : List ℕ) (d d' : Decoding) : Type 0 where
  pub suits : Suits d' bytes
  pub passes : Passes (still d bytes) (still d' bytes)

-- more bytes were taken, or the end was told
abbrev pub GoesOn : Decoding → Decoding → Type 0
GoesOn d d' = (d.taken < d'.taken) ⊎ ((d'.taken ≡ d.taken) × (d'.ended ≡ true))

-- what was given of what was still to come
abbrev pub GivesOf : List ℕ → Result Given FolderFault → List ℕ → Decoding → Decoding → Type 0
GivesOf bytes (Ok (Bytes n)) buffer d d' = Passes (still d bytes) (chunk_before (take n buffer) (still d' bytes))
GivesOf bytes (Ok End) buffer d d' = Stops Whole (still d bytes) (still d' bytes)
GivesOf bytes (Ok (Damage fault)) buffer d d' = Stops (Faulty fault) (still d bytes) (still d' bytes)
GivesOf bytes (Ok PastLimit) buffer d d' = Stops Wanting (still d bytes) (still d' bytes)
GivesOf bytes (Err fault) buffer d d' = Passes (still d bytes) (still d' bytes)

-- so, and the bytes are still those of the file
abbrev pub GivesGiven : List ℕ → Result Given FolderFault → List ℕ → Decoding → Decoding → Type 0
GivesGiven bytes result buffer d d' = Suits d' bytes × GivesOf bytes result buffer d d'

-- what a reader of the file at a path answers to it, unless memory is refused for the path in a fault
abbrev pub AnswersGiven : Path → Given → Result ℕ CatFault → Type 0
AnswersGiven at (Bytes n) result = result ≡ Ok n
AnswersGiven at End result = result ≡ Ok 0
AnswersGiven at (Damage fault) result = (result ≡ Err (Damaged at fault)) ⊎ (result ≡ Err NoMemory)
AnswersGiven at PastLimit result = (result ≡ Err (Limit (Length at))) ⊎ (result ≡ Err NoMemory)

-- of a reading so many bytes were written, all chunks before what is still to come
pub record HasWritten (reading : Reading) (taken taken' : Option (List ℕ)) (total : ℕ) (rest : Reading) : Type 0 where
  pub chunks : List (List ℕ)
  pub is : reading ≡ chunks_before chunks rest
  pub wrote : Appends taken taken' (concat chunks)
  pub count : total ≡ length (concat chunks)

-- the content of the file that stands at a plain path is at this path, behind the root's
abbrev pub IsContentAt : Format → Path → View → plain.Path → Path → Type 0
IsContentAt f root v path at = (rest : Path) × (at ≡ root ++ rest) × (standing f (under root v) path ≡ File rest) × ShowsFile v at
