-- Reading the content files of a vault piece by piece, and what `cat` makes of them.
use Rattle.std.specs.Prelude.{◌≡◌, ◌⊎◌, ℕ, zero, suc, ◌≤◌, true, nat_lt, List, [], ◌++◌, length, take, drop, replicate, Option, Result, Ok, Err}
use Rattle.std.specs.List.{concat}
use Rattle.std.specs.Io.KnownBytes.{Appends, Keeps}
use Rattle.port_model.specs.Told.{AppendsPrefix}
use Rattle.folder_spec.specs.Path.{Path}
use Rattle.folder_spec.specs.View.{View, FileOf}
use Rattle.folder_spec.specs.Seen.{under}
use Rattle.plain_tree.specs.Names as plain
use Rattle.chunk_files.specs.Keys.{Keys}
use Rattle.chunk_files.specs.Reading.{Ending, Whole, Wanting, Faulty, Reading, ends, chunk_before}
use Rattle.chunk_files.specs.Contents.{read_file}
use Rattle.chunk_files.specs.Decoding.{Decoding, left, chunks_before}
use Rattle.vault_spec.specs.Format.{Format}
use Rattle.vault_spec.specs.Standing.{Standing, Absent, Strange, File, Dir, standing}
use Rattle.vault_spec.specs.Find.{Refusal, find}
use Rattle.vault_spec.specs.Find as spec
use Rattle.vault_read.specs.Finding.{Refuses}
use Rattle.vault_faults.specs.declared.fault.FindFault.{FindFault}
use Rattle.vault_faults.specs.Limits.{content_limit}
use Rattle.vault_faults.specs.declared.fault.FindFault.TheVariants as finds
use Rattle.vault_faults.specs.declared.fault.Limit.TheVariants.{Depth, Items, Length, Input}
use Rattle.vault_faults.specs.declared.fault.CatFault.{CatFault}
use Rattle.vault_faults.specs.declared.fault.CatFault.TheVariants.{Find, Damaged, Limit, Sink, Failed, NoMemory}

-- what a content file gives, of which no more bytes than the limit are read
abbrev pub limited_reading : Keys → List ℕ → Reading
limited_reading keys bytes = read_file keys (take content_limit bytes) (nat_lt content_limit (length bytes))

-- ---- reading piece by piece

-- the path of a content file that is being read, and how far its decoder is
pub record Reader : Type 0 where
  pub at : Path
  pub decoding : Decoding

-- a file with these bytes has as many as were read of it, and no more where its end was told
pub record Suits (d : Decoding) (bytes : List ℕ) : Type 0 where
  pub front : d.taken ≤ length bytes
  pub whole : d.ended ≡ true → length bytes ≤ d.taken

-- the file is there, and has the bytes that were read of it
abbrev pub IsBeingRead : View → Path → Decoding → Type 0
IsBeingRead v at d = (bytes : List ℕ) × (v at ≡ FileOf bytes) × Suits d bytes

-- what a file with these bytes has still to give behind what was read of it
abbrev pub still : Decoding → List ℕ → Reading
still d bytes = left d (drop d.taken (take content_limit bytes)) (nat_lt content_limit (length bytes))

-- some chunks without bytes, perhaps none, and then this
abbrev pub Passes : Reading → Reading → Type 0
Passes before after = (k : ℕ) × (before ≡ chunks_before (replicate k []) after)

-- nothing more is given, now and later
abbrev pub Stops : Ending → Reading → Reading → Type 0
Stops ending before after = Passes before (ends ending) × (after ≡ ends ending)

-- the next chunk with bytes stands at the front of the buffer, or there is none and the file has ended
abbrev pub GivesBytes : ℕ → List ℕ → Reading → Reading → Type 0
GivesBytes zero buffer before after = Stops Whole before after
GivesBytes (suc n) buffer before after = Passes before (chunk_before (take (suc n) buffer) after)

-- What a step gives of what was still to come, and what is still to come then. Chunks without bytes are passed over. At a damaged
-- chunk, and past the limit, nothing more is given. Where the folder failed, or memory was refused, no bytes are lost.
abbrev pub Gives : Path → Result ℕ CatFault → List ℕ → Reading → Reading → Type 0
Gives at (Ok n) buffer before after = GivesBytes n buffer before after
Gives at (Err (Damaged path fault)) buffer before after = (path ≡ at) × Stops (Faulty fault) before after
Gives at (Err (Limit (Length path))) buffer before after = (path ≡ at) × Stops Wanting before after
Gives at (Err (Limit Depth)) buffer before after = ⊥
Gives at (Err (Limit Items)) buffer before after = ⊥
Gives at (Err (Limit Input)) buffer before after = ⊥
Gives at (Err Failed) buffer before after = Passes before after
Gives at (Err NoMemory) buffer before after = Passes before after
Gives at (Err (Find fault)) buffer before after = ⊥
Gives at (Err Sink) buffer before after = ⊥

-- a fault that reading the file at a path may have
abbrev pub IsReaderFault : Path → CatFault → Type 0
IsReaderFault at (Damaged path fault) = path ≡ at
IsReaderFault at (Limit (Length path)) = path ≡ at
IsReaderFault at (Limit Depth) = ⊥
IsReaderFault at (Limit Items) = ⊥
IsReaderFault at (Limit Input) = ⊥
IsReaderFault at Failed = Unit {0}
IsReaderFault at NoMemory = Unit {0}
IsReaderFault at (Find fault) = ⊥
IsReaderFault at Sink = ⊥

-- ---- `cat`

-- the file that is found, by where its content is; a directory is of the wrong kind
abbrev pub file_found : plain.Path → Result Standing Refusal → Result Path Refusal
file_found path (Err refusal) = Err refusal
file_found path (Ok (File at)) = Ok at
file_found path (Ok (Dir at directory)) = Err (spec.WrongKind path)
file_found path (Ok (Strange at)) = Err (spec.WrongKind path)
file_found path (Ok Absent) = Err (spec.NotFound path)

-- where the content of the file at a plain path is, or the first part of the path that doesn't serve
abbrev pub content_at : Format → Path → View → plain.Path → Result Path Refusal
content_at f root v path = file_found path (find f (under root v) path)

-- the content file of the file that stands at a plain path is at this path, behind the root's, and gives this
pub record IsContent (f : Format) (root : Path) (v : View) (path : plain.Path) (at : Path) (reading : Reading) : Type 0 where
  pub rest : Path
  pub bytes : List ℕ
  pub stands : standing f (under root v) path ≡ File rest
  pub place : at ≡ root ++ rest
  pub file : v at ≡ FileOf bytes
  pub gives : reading ≡ limited_reading f.content bytes

-- the path is refused; the folder's failing and want of memory are other faults
abbrev pub IsOfPath : FindFault → Type 0
IsOfPath (finds.NotFound path) = Unit {0}
IsOfPath (finds.WrongKind path) = Unit {0}
IsOfPath (finds.NoDirKey at) = Unit {0}
IsOfPath (finds.NoFolder at) = Unit {0}
IsOfPath finds.Failed = ⊥
IsOfPath finds.NoMemory = ⊥

-- a fault that writing a content may have
abbrev pub IsCatFault : CatFault → Type 0
IsCatFault (Find fault) = IsOfPath fault
IsCatFault (Damaged path fault) = Unit {0}
IsCatFault (Limit (Length path)) = Unit {0}
IsCatFault (Limit Depth) = ⊥
IsCatFault (Limit Items) = ⊥
IsCatFault (Limit Input) = ⊥
IsCatFault Sink = Unit {0}
IsCatFault Failed = Unit {0}
IsCatFault NoMemory = Unit {0}

-- By the answer, how reading a content file ended, and what the output took: all its chunks; a front part of them joined, where the
-- output failed; the first chunks, perhaps none, where the folder failed or memory was refused.
abbrev pub Writes : Path → Result ℕ CatFault → Reading → Option (List ℕ) → Option (List ℕ) → Type 0
Writes at (Ok n) reading taken taken' =
    (reading.ending ≡ Whole) × (n ≡ length (concat reading.chunks)) × Appends taken taken' (concat reading.chunks)
Writes at (Err (Damaged path fault)) reading taken taken' =
    (path ≡ at) × (reading.ending ≡ Faulty fault) × Appends taken taken' (concat reading.chunks)
Writes at (Err (Limit (Length path))) reading taken taken' =
    (path ≡ at) × (reading.ending ≡ Wanting) × Appends taken taken' (concat reading.chunks)
Writes at (Err Sink) reading taken taken' = AppendsPrefix taken taken' (concat reading.chunks)
Writes at (Err Failed) reading taken taken' = (k : ℕ) × Appends taken taken' (concat (take k reading.chunks))
Writes at (Err NoMemory) reading taken taken' = (k : ℕ) × Appends taken taken' (concat (take k reading.chunks))
Writes at (Err (Limit Depth)) reading taken taken' = ⊥
Writes at (Err (Limit Items)) reading taken taken' = ⊥
Writes at (Err (Limit Input)) reading taken taken' = ⊥
Writes at (Err (Find fault)) reading taken taken' = ⊥

-- the content file of a plain path is there, and was written as the answer says
abbrev pub WritesContent : Format → Path → View → plain.Path → Result ℕ CatFault → Option (List ℕ) → Option (List ℕ) → Type 0
WritesContent f root v path result taken taken' =
    (at : Path) × (reading : Reading) × IsContent f root v path at reading × Writes at result reading taken taken'

-- What `cat` answers, and what the output took. Where no file is found, nothing was written; so it may be where the folder failed or
-- memory was refused.
abbrev pub Cats : Format → Path → View → plain.Path → Result ℕ CatFault → Option (List ℕ) → Option (List ℕ) → Type 0
Cats f root v path (Err (Find fault)) taken taken' = Refuses root (content_at f root v path) fault × Keeps taken taken'
Cats f root v path (Err Failed) taken taken' = Keeps taken taken' ⊎ WritesContent f root v path (Err Failed) taken taken'
Cats f root v path (Err NoMemory) taken taken' = Keeps taken taken' ⊎ WritesContent f root v path (Err NoMemory) taken taken'
Cats f root v path (Err Sink) taken taken' = WritesContent f root v path (Err Sink) taken taken'
Cats f root v path (Err (Damaged at fault)) taken taken' = WritesContent f root v path (Err (Damaged at fault)) taken taken'
Cats f root v path (Err (Limit limit)) taken taken' = WritesContent f root v path (Err (Limit limit)) taken taken'
Cats f root v path (Ok n) taken taken' = WritesContent f root v path (Ok n) taken taken'
