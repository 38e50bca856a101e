-- A content that is given piece by piece: what of it is still to come, and how that ends.
--
-- A content reads at most one file of the folder, at a path that it names. What is still to come is a function of what stands
-- there, so that a change elsewhere leaves it.
use Rattle.std.specs.Prelude.{◌≡◌, ◌≢◌, ◌≤◌, ℕ, Bool, zero, suc, nat_le, List, [], ◌++◌, take, length, Option, Some, None, Result, Ok, Err, if◌then◌else◌}
use Rattle.chunk_files.specs.declared.fault.ChunkFault.{ChunkFault}
use Rattle.folder_spec.specs.Path.{Path}
use Rattle.folder_spec.specs.Event.{Told}
use Rattle.folder_spec.specs.View.{Found, NoEntry, View}
use Rattle.folder_spec.specs.Seen.{IfSeen, IsSeen, seen}
use Rattle.vault_faults.specs.declared.fault.Limit.{Limit}
use Rattle.vault_faults.specs.declared.fault.Limit.TheVariants.{Depth, Input, Items, Length}
use Rattle.item_making.specs.Ending.{Ending, Whole, Damaged, TooLong}
use Rattle.item_making.specs.declared.fault.PutFault.{PutFault}
use Rattle.item_making.specs.declared.fault.PutFault.TheVariants as puts

-- the bytes that are still to come, and how they end
pub record Coming : Type 0 where
  pub bytes : List ℕ
  pub ending : Ending

-- no more bytes
abbrev pub ends : Ending → Coming
ends ending = record { bytes = []; ending = ending }

-- these bytes, and then that
abbrev pub bytes_before : List ℕ → Coming → Coming
bytes_before bytes c = record { bytes = bytes ++ c.bytes; ending = c.ending }

-- what stands at the path that a content reads, where the folder tells it; one that reads no path has nothing there
abbrev pub Stands : Option Path → Option Told → Found → Type 0
Stands None told found = found ≡ NoEntry
Stands (Some at) told found = (v : View) × IsSeen told v × (found ≡ v at)

-- what is still to come as the folder stands, where the folder and the content tell it
abbrev pub still_coming : Option Path → Option Told → (Found → Option Coming) → Option Coming
still_coming None told coming = coming NoEntry
still_coming (Some at) None coming = None
still_coming (Some at) (Some a) coming = coming (seen a.state at)

abbrev pub IsTold : Option Coming → Type 0
IsTold None = ⊥
IsTold (Some c) = Unit {0}

-- A content can be read on: the file at its path, if it reads one, is there, and has the bytes that were read of it.
abbrev pub IsReady : Option Path → Option Told → (Found → Option Coming) → Type 0
IsReady None told coming = Unit {0}
IsReady (Some at) told coming = IfSeen told (λ v. IsTold (coming (v at)))

-- What a piece gives of what was still to come, and what is still to come then. Nothing is given only at the end. Where the
-- source or the folder failed, or memory was refused, no bytes are lost.
abbrev pub Steps : Result ℕ PutFault → List ℕ → Coming → Coming → Type 0
Steps (Ok zero) out before after = (before ≡ ends Whole) × (after ≡ before)
Steps (Ok (suc n)) out before after = before ≡ bytes_before (take (suc n) out) after
Steps (Err (puts.Damaged at fault)) out before after = (before ≡ ends (Damaged at fault)) × (after ≡ before)
Steps (Err (puts.Limit limit)) out before after = (before ≡ ends (TooLong limit)) × (after ≡ before)
Steps (Err puts.Source) out before after = after ≡ before
Steps (Err puts.Failed) out before after = after ≡ before
Steps (Err puts.NoMemory) out before after = after ≡ before
Steps (Err (puts.Find fault)) out before after = ⊥
Steps (Err (puts.NotAllowed path)) out before after = ⊥
Steps (Err (puts.Taken at)) out before after = ⊥
Steps (Err puts.ZeroRandom) out before after = ⊥
Steps (Err puts.Random) out before after = ⊥

-- the same of a content that may tell nothing; one that tells before tells after
abbrev pub Gives : Result ℕ PutFault → List ℕ → Option Coming → Option Coming → Type 0
Gives result out None after = Unit {0}
Gives result out (Some before) None = ⊥
Gives result out (Some before) (Some after) = Steps result out before after

-- the limit that a content may pass, by the path that it reads: that of its file, or of an input where it reads none
abbrev pub IsContentLimit : Option Path → Limit → Type 0
IsContentLimit reads Input = reads ≡ None
IsContentLimit reads (Length at) = reads ≡ Some at
IsContentLimit reads Items = ⊥
IsContentLimit reads Depth = ⊥

-- A fault that a content may answer, by the path that it reads. One that reads no path is an input's: its source fails, or it passes the
-- limit, and nothing else.
abbrev pub IsContentFault : Option Path → PutFault → Type 0
IsContentFault reads (puts.Damaged at fault) = reads ≡ Some at
IsContentFault reads (puts.Limit limit) = IsContentLimit reads limit
IsContentFault reads puts.Source = reads ≡ None
IsContentFault reads puts.Failed = reads ≢ None
IsContentFault reads puts.NoMemory = reads ≢ None
IsContentFault reads (puts.Find fault) = ⊥
IsContentFault reads (puts.NotAllowed path) = ⊥
IsContentFault reads (puts.Taken at) = ⊥
IsContentFault reads puts.ZeroRandom = ⊥
IsContentFault reads puts.Random = ⊥

-- where a content is blamed, it may answer that
abbrev pub FitsContent : Option Path → PutFault → Type 0
FitsContent reads (puts.Damaged at fault) = IsContentFault reads (puts.Damaged at fault)
FitsContent reads (puts.Limit limit) = IsContentFault reads (puts.Limit limit)
FitsContent reads puts.Source = IsContentFault reads puts.Source
FitsContent reads fault = Unit {0}

-- these bytes were given of what was to come, and the rest is still to come; what was told stays told
abbrev pub Gave : List ℕ → Option Coming → Option Coming → Type 0
Gave given None after = Unit {0}
Gave given (Some before) None = ⊥
Gave given (Some before) (Some after) = before ≡ bytes_before given after

-- no more bytes of what was to come are left, and the content ends so
abbrev pub HasEnded : Ending → Option Coming → Option Coming → Type 0
HasEnded ending None left = Unit {0}
HasEnded ending (Some before) left = left ≡ Some (ends ending)

-- ---- what is taken of a source

-- at most so many bytes were taken of what a source had left, where it tells that
abbrev pub TakesUpTo : ℕ → Option (List ℕ) → Option (List ℕ) → Type 0
TakesUpTo most None left' = Unit {0}
TakesUpTo most (Some left) None = ⊥
TakesUpTo most (Some left) (Some left') = (taken : List ℕ) × (left ≡ taken ++ left') × (length taken ≤ most)

-- a piece takes as many bytes as it gives, and where it fails, at most one
abbrev pub most_taken : Result ℕ PutFault → ℕ
most_taken (Ok count) = count
most_taken (Err fault) = 1

-- ---- the content of a source

-- so many of the bytes are the content; where there are more, it passes the limit of an input
abbrev pub within : ℕ → List ℕ → Coming
within room bytes = if nat_le (length bytes) room then record { bytes = bytes; ending = Whole } else record { bytes = take room bytes; ending = TooLong Input }

-- what is to come of the bytes that a source has left, by the room left, and by whether the limit was passed
abbrev pub coming_from : ℕ → Bool → Option (List ℕ) → Option Coming
coming_from room passed None = None
coming_from room passed (Some bytes) = Some (if passed then ends (TooLong Input) else within room bytes)
