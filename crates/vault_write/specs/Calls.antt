-- The calls that make an item at a plain path: under which bytes drawn, of which content, and all that follows of these.
use Rattle.std.specs.Prelude.{◌≡◌, ◌≢◌, ◌≤◌, ◌⊎◌, ℕ, Bool, List, [], ◌∷◌, ◌++◌, length, Option, Some, None, Result, Ok, Err, OnOk, IfErr, IfSome}
use Rattle.chunk_files.specs.Keys.{Keys}
use Rattle.port_model.specs.Draws.{ByteStream, Draws}
use Rattle.folder_spec.specs.Path.{Path, below}
use Rattle.folder_spec.specs.Event.{Told, FromTo}
use Rattle.folder_spec.specs.Region.{IsAsBefore}
use Rattle.folder_spec.specs.Seen.{IfSeen, under}
use Rattle.folder_spec.specs.View.{View}
use Rattle.plain_tree.specs.Names as plain
use Rattle.vault_read.specs.Finding.{IsDirPlace}
use Rattle.vault_read.specs.Opened.{FitsKey}
use Rattle.vault_spec.specs.Opened.{OpenedVault}
use Rattle.vault_spec.specs.Making.{NewItem, NewDirectory, NewFile, draws}
use Rattle.vault_spec.specs.Vault.{format_of}
use Rattle.item_making.specs.Ending.{Ending, Whole}
use Rattle.content_writing.specs.Content.{Coming, Gave, HasEnded}
use Rattle.content_writing.specs.Writing.{DrewNoZeros, DrewZeros}
use Rattle.item_making.specs.Making.{Placing, Making, format, new_item, put_item, is_unstaged}
use Rattle.item_making.specs.Placing.{Makes}
use Rattle.vault_write.specs.Refusing.{Answers, AnswersPut, TakesRoot, PutsRoot}
use Rattle.item_making.specs.declared.fault.PutFault.{PutFault}
use Rattle.item_making.specs.declared.fault.PutFault.TheVariants as puts
use Rattle.vault_read.specs.declared.finding.DirPlace.{DirPlace}
use Rattle.vault_write.specs.declared.kept.KeptDir.{KeptDir}

-- an item that is new, or one that may come in the place of a file
pub data How : Type 0 where
  New : How
  InPlace : How

abbrev pub making_by : How → Placing → List ℕ → View → Making
making_by New p drawn = new_item p drawn
making_by InPlace p drawn = put_item p drawn

abbrev pub AnswersBy : How → Placing → List ℕ → Ending → View → Result (Unit {0}) PutFault → Type 0
AnswersBy New = Answers
AnswersBy InPlace = AnswersPut

abbrev pub AnswersRoot : How → Path → Result (Unit {0}) PutFault → Type 0
AnswersRoot New root result = TakesRoot root result
AnswersRoot InPlace root result = PutsRoot result

-- what may be answered once the making has begun: not that the directory, the name or the place was refused
abbrev pub IsOfMaking : PutFault → Type 0
IsOfMaking (puts.Find fault) = ⊥
IsOfMaking (puts.NotAllowed path) = ⊥
IsOfMaking (puts.Taken at) = ⊥
IsOfMaking fault = Unit {0}

-- how many of so many bytes are taken of a content's source at most: none where the directory, the name or the place is refused
abbrev pub most_by : Result (Unit {0}) PutFault → ℕ → ℕ
most_by (Err (puts.Find fault)) most = 0
most_by (Err (puts.NotAllowed path)) most = 0
most_by (Err (puts.Taken at)) most = 0
most_by result most = most

-- Where a call is refused though the folder and memory serve, a region is as it was.
abbrev pub IsUnpublished : (Path → Bool) → Option Told → Option Told → Result (Unit {0}) PutFault → Type 0
IsUnpublished region before after (Ok _) = Unit {0}
IsUnpublished region before after (Err puts.Failed) = Unit {0}
IsUnpublished region before after (Err puts.NoMemory) = Unit {0}
IsUnpublished region before after (Err fault) = FromTo (λ a b. IsAsBefore region a.state b.state) before after

-- A call makes an item under a name, with these bytes drawn: no more than the item draws. Where one of the tests refuses, nothing is
-- changed; and where the content fails, nothing but the stage. Zeros are refused where they were drawn, and only there.
pub record MakesOne (how : How) (p : Placing) (ending : Ending) (drawn : List ℕ) (before after : Option Told) (result : Result (Unit {0}) PutFault) : Type 0 where
  pub enough : length drawn ≤ draws (format p) p.item
  pub makes : Makes p ending (making_by how p drawn) before after result
  pub answer : IfSeen before (λ v. AnswersBy how p drawn ending (under p.vault.root v) result)
  pub tested : IfErr result (λ fault. IsOfMaking fault ⊎ (after ≡ before))
  pub unpublished : IsUnpublished (is_unstaged p.work) before after result
  pub zeros : result ≡ Err puts.ZeroRandom → DrewZeros (format p).content drawn
  pub accepted : result ≢ Err puts.ZeroRandom → DrewNoZeros (format p).content drawn

-- at a plain path; the root isn't made
pub record MakesAt (how : How) (vault : OpenedVault) (work : Path) (path : plain.Path) (item : NewItem) (ending : Ending) (drawn : List ℕ) (before after : Option Told) (result : Result (Unit {0}) PutFault) : Type 0 where
  pub named : (front : plain.Path) (name : List ℕ) → path ≡ front ++ name ∷ []
      → MakesOne how (record { vault = vault; work = work; front = front; name = name; item = item }) ending drawn before after result
  pub root : path ≡ [] → (after ≡ before) × (drawn ≡ []) × AnswersRoot how vault.root result

-- a new directory
pub record MakesDirectory (vault : OpenedVault) (work : Path) (path : plain.Path) (stream stream' : Option ByteStream) (before after : Option Told) (result : Result (Unit {0}) PutFault) : Type 0 where
  pub drawn : List ℕ
  pub were_drawn : Draws stream stream' drawn
  pub makes : MakesAt New vault work path NewDirectory Whole drawn before after result

-- a content that ends so, the bytes that were given of it, and those that were drawn for it
pub record Writing : Type 0 where
  pub drawn : List ℕ
  pub content : List ℕ
  pub given : List ℕ
  pub ending : Ending

-- What is drawn for a content and given of it: it is this one, which ends so, where the content tells that. Zeros that are refused
-- were drawn only at last, and after Ok nothing is left of the content.
pub record TakesContent (keys : Keys) (w : Writing) (coming left : Option Coming) (stream stream' : Option ByteStream) (result : Result (Unit {0}) PutFault) : Type 0 where
  pub were_drawn : Draws stream stream' w.drawn
  pub accepted : result ≢ Err puts.ZeroRandom → DrewNoZeros keys w.drawn
  pub told : (c : Coming) → coming ≡ Some c → c ≡ record { bytes = w.content; ending = w.ending }
  pub gave : Gave w.given coming left
  pub ended : OnOk result (HasEnded Whole coming left)

-- A file of a content.
pub record MakesFile (how : How) (vault : OpenedVault) (work : Path) (path : plain.Path) (coming left : Option Coming) (stream stream' : Option ByteStream)
    (before after : Option Told) (result : Result (Unit {0}) PutFault) : Type 0 where
  pub writing : Writing
  pub takes : TakesContent (format_of vault.vault).content writing coming left stream stream' result
  pub makes : MakesAt how vault work path (NewFile writing.content) writing.ending writing.drawn before after result

-- the path that a content reads, if any, is neither in the work folder nor in the vault that is written
abbrev pub ReadsElsewhere : Option Path → Path → Path → Type 0
ReadsElsewhere None work root = Unit {0}
ReadsElsewhere (Some at) work root = (below work at ≡ None) × (below root at ≡ None)

-- this is the directory that a plain path leads to
abbrev pub IsAt : OpenedVault → plain.Path → DirPlace → Option Told → Type 0
IsAt vault front dir told = IfSeen told (λ v. IsDirPlace vault.root (format_of vault.vault) (under vault.root v) front dir)

-- the directory that is kept, if any, is that of its plain path
abbrev pub IsKept : OpenedVault → Option Told → Option KeptDir → Type 0
IsKept vault told kept = IfSome kept (λ here. FitsKey vault.vault here.dir.key × IsAt vault here.path here.dir told)
