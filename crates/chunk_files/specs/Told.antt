-- What a header told, as each layout keeps it.
use Rattle.std.specs.Prelude.{◌≡◌, ⊤, ℕ, Bool, true, false, List, Option, None, Some, Result, Ok, Err}
use Rattle.chunk_files.specs.declared.fault.ChunkFault.{ChunkFault}
use Rattle.chunk_files.specs.declared.keys.Layout.{Layout}
use Rattle.chunk_files.specs.declared.keys.Layout.TheVariants as layout
use Rattle.chunk_files.specs.declared.told.Told.{Told}
use Rattle.chunk_files.specs.declared.told.Told.TheVariants as told
use Rattle.chunk_files.specs.Format.{Header}
use Rattle.chunk_files.specs.Keys.{Keys}

-- the key of the chunks, and the bytes that bind them to their file
abbrev pub header_of : Told → Header
header_of (told.Go vault id) = record { key = vault; file = id }
header_of (told.CmGcm told) = record { key = told.chunks; file = told.nonce }
header_of (told.CmCtr told) = record { key = told.chunks; file = told.nonce }

abbrev pub layout_of : Told → Layout
layout_of (told.Go vault id) = layout.Go
layout_of (told.CmGcm told) = layout.CmGcm
layout_of (told.CmCtr told) = layout.CmCtr

-- the key under which headers are opened and sealed
abbrev pub vault_key : Told → List ℕ
vault_key (told.Go vault id) = vault
vault_key (told.CmGcm told) = told.vault
vault_key (told.CmCtr told) = told.vault

-- what a header told, once it is read
abbrev pub header_told : Bool → Told → Option Header
header_told true told = Some (header_of told)
header_told false told = None

-- it is of these keys
abbrev pub Suits : Told → Keys → Type 0
Suits told keys = (layout_of told ≡ keys.layout) × (vault_key told ≡ keys.key)

-- what a header told, or its fault
abbrev pub header_or_fault : Result ⊤ ChunkFault → Header → Result Header ChunkFault
header_or_fault (Ok read) header = Ok header
header_or_fault (Err fault) header = Err fault
