-- Writing a content as a content file: what is drawn for it, what is written at every moment, and how that ends.
use Rattle.std.specs.Prelude.{◌≡◌, ◌≢◌, ◌≤◌, ℕ, zero, suc, ◌*◌, true, List, [], ◌∷◌, length, take, drop, replicate, Option, Some, None, Result, Ok, Err}
use Rattle.port_model.specs.Counts.{CountRose}
use Rattle.port_model.specs.Draws.{ByteStream, Draws}
use Rattle.chunk_files.specs.Encrypt.{IsEncrypted, draws, encrypt}
use Rattle.chunk_files.specs.Keys.{Keys, format_of}
use Rattle.folder_spec.specs.Path.{Path, below}
use Rattle.folder_spec.specs.State.{present}
use Rattle.folder_spec.specs.Event.{Told, FromTo}
use Rattle.folder_spec.specs.Replace.{IsNewFile}
use Rattle.folder_staging.specs.Pieces.{Stages}
use Rattle.item_making.specs.Ending.{Ending, Whole, Damaged, TooLong}
use Rattle.content_writing.specs.Content.{Coming, Gave, HasEnded}
use Rattle.item_making.specs.declared.fault.PutFault.{PutFault}
use Rattle.item_making.specs.declared.fault.PutFault.TheVariants as puts

-- A count of faults never falls, and a call answers this fault only where the count rose.
abbrev pub Blames : {T : Type 0} → Result T PutFault → PutFault → ℕ → ℕ → Type 0
Blames result fault before after = (before ≤ after) × (result ≡ Err fault → CountRose before after)

-- the path that a content reads, if any, is not at the staged path or below it
abbrev pub ReadsApart : Option Path → Path → Type 0
ReadsApart None staged = Unit {0}
ReadsApart (Some at) staged = below staged at ≡ None

-- the sixteen bytes of this number, from 0, of bytes that are cut into such pieces
abbrev pub sixteen : ℕ → List ℕ → List ℕ
sixteen zero bytes = take 16 bytes
sixteen (suc number) bytes = sixteen number (drop 16 bytes)

-- those of this number that were drawn are zeros, where these are refused
pub record HasZeros (keys : Keys) (drawn : List ℕ) (number : ℕ) : Type 0 where
  pub refused : (format_of keys).refuses_zeros ≡ true
  pub zeros : sixteen number drawn ≡ replicate 16 0

-- those that were drawn last are
abbrev pub DrewZeros : Keys → List ℕ → Type 0
DrewZeros keys drawn = (number : ℕ) × HasZeros keys drawn number × (length drawn ≡ 16 * suc number)

-- none are
abbrev pub DrewNoZeros : Keys → List ℕ → Type 0
DrewNoZeros keys drawn = (number : ℕ) → ¬ HasZeros keys drawn number

-- The content was written whole: in a new file at the path, which lasts through a crash, and under just the bytes that it draws.
pub record IsWritten (keys : Keys) (at : Path) (drawn content : List ℕ) (ending : Ending) (coming left : Option Coming) (before after : Option Told) : Type 0 where
  pub whole : ending ≡ Whole
  pub ended : HasEnded Whole coming left
  pub encrypted : IsEncrypted keys drawn content (encrypt keys drawn content)
  pub file : FromTo (λ a b. IsNewFile (encrypt keys drawn content) a.state b.state (present b.state at)) before after

-- How writing a content ends, by its answer. The content's own faults come where no bytes are left before them.
abbrev pub EndsBy : Keys → Path → List ℕ → List ℕ → Ending → Option Coming → Option Coming → Option Told → Option Told → Result (Unit {0}) PutFault → Type 0
EndsBy keys at drawn content ending coming left before after (Ok _) = IsWritten keys at drawn content ending coming left before after
EndsBy keys at drawn content ending coming left before after (Err (puts.Damaged path fault)) = (ending ≡ Damaged path fault) × HasEnded ending coming left
EndsBy keys at drawn content ending coming left before after (Err (puts.Limit limit)) = (ending ≡ TooLong limit) × HasEnded ending coming left
EndsBy keys at drawn content ending coming left before after (Err puts.ZeroRandom) = DrewZeros keys drawn
EndsBy keys at drawn content ending coming left before after (Err puts.Source) = Unit {0}
EndsBy keys at drawn content ending coming left before after (Err puts.Random) = Unit {0}
EndsBy keys at drawn content ending coming left before after (Err puts.Failed) = Unit {0}
EndsBy keys at drawn content ending coming left before after (Err puts.NoMemory) = Unit {0}
EndsBy keys at drawn content ending coming left before after (Err (puts.Find fault)) = ⊥
EndsBy keys at drawn content ending coming left before after (Err (puts.NotAllowed path)) = ⊥
EndsBy keys at drawn content ending coming left before after (Err (puts.Taken place)) = ⊥

-- A content is written at a staged path. It is this one, which ends so, where the content tells that. Its file under the bytes
-- drawn, which are no more than it draws, is all that is staged: at every moment each file that was made holds a front part of it.
pub record WritesContent (keys : Keys) (at : Path) (coming left : Option Coming) (stream stream' : Option ByteStream) (before after : Option Told)
    (result : Result (Unit {0}) PutFault) : Type 0 where
  pub drawn : List ℕ
  pub content : List ℕ
  pub ending : Ending
  pub were_drawn : Draws stream stream' drawn
  pub enough : length drawn ≤ draws (format_of keys) content
  pub accepted : result ≢ Err puts.ZeroRandom → DrewNoZeros keys drawn
  pub told : (c : Coming) → coming ≡ Some c → c ≡ record { bytes = content; ending = ending }
  pub given : List ℕ
  pub gave : Gave given coming left
  pub stages : Stages (encrypt keys drawn content ∷ []) at before after
  pub ends : EndsBy keys at drawn content ending coming left before after result
