-- What is blamed where writing a content ends early.
use Rattle.std.proofs.Common.{◌≡◌, ◌≢◌, ◌≤◌, ℕ, List, Option, Result, Ok, Err, IsErrAnd, IfErr, sym, subst, arith}
use Rattle.chunk_files.specs.Keys.{Keys}
use Rattle.folder_model.proofs.Counting.{rose_since}
use Rattle.folder_model.specs.Answers.{CountsAbove}
use Rattle.folder_spec.specs.declared.FolderFault.{FolderFault}
use Rattle.folder_spec.specs.declared.FolderFault.TheVariants as folder
use Rattle.item_making.specs.Faults.{of_folder}
use Rattle.folder_spec.specs.Path.{Path}
use Rattle.content_writing.specs.Content.{FitsContent, IsContentFault}
use Rattle.content_writing.specs.Streaming.{FailsToStore}
use Rattle.content_writing.specs.Writing.{Blames}
use Rattle.item_making.specs.declared.fault.PutFault.{PutFault}
use Rattle.item_making.specs.declared.fault.PutFault.TheVariants as puts

-- ---- a call that ended by one fault

pub blames_at : {T : Type 0} (result : Result T PutFault) (fault blamed : PutFault) (old new : ℕ) → IsErrAnd result (λ e. e ≡ fault) → Blames {T = T} (Err fault) blamed old new → Blames result blamed old new
blames_at (Ok value) fault blamed old new by_fault blames = absurd by_fault
blames_at {T} (Err e) fault blamed old new by_fault blames = subst (λ x. Blames {T = T} (Err x) blamed old new) (sym by_fault) blames

-- ---- a content is blamed only for what it may answer

pub fits_at : (reads : Option Path) (result : Result (Unit {0}) PutFault) (fault : PutFault) → IsErrAnd result (λ e. e ≡ fault) → FitsContent reads fault → IfErr result (λ fault. FitsContent reads fault)
fits_at reads (Ok value) fault by_fault fits = tt
fits_at reads (Err e) fault by_fault fits = subst (FitsContent reads) (sym by_fault) fits

pub content_fits : (reads : Option Path) (fault : PutFault) → IsContentFault reads fault → FitsContent reads fault
content_fits reads (puts.Damaged at fault) is = is
content_fits reads (puts.Limit limit) is = is
content_fits reads puts.Source is = is
content_fits reads fault is = tt

pub stores_fit : (reads : Option Path) (keys : Keys) (drawn : List ℕ) (why : PutFault) → FailsToStore keys drawn why → FitsContent reads why
stores_fit reads keys drawn (puts.Damaged at fault) fails = absurd fails
stores_fit reads keys drawn (puts.Limit limit) fails = absurd fails
stores_fit reads keys drawn puts.Source fails = absurd fails
stores_fit reads keys drawn why fails = tt

pub folder_fits : (reads : Option Path) (fault : FolderFault) → FitsContent reads (of_folder fault)
folder_fits reads folder.Failed = tt
folder_fits reads folder.Refused = tt
folder_fits reads folder.NoMemory = tt

-- ---- what a fault is of

-- storing reads no source
pub stores_unread : (keys : Keys) (drawn : List ℕ) (why : PutFault) → FailsToStore keys drawn why → why ≢ puts.Source
stores_unread keys drawn why fails source = subst (FailsToStore keys drawn) source fails

-- a folder's call blames the folder alone
pub folder_blames : {T : Type 0} (old now new : ℕ) (fault : FolderFault) → old ≤ now → CountsAbove {T = T} now new (Err fault) → Blames {T = T} (Err (of_folder fault)) puts.Failed old new
folder_blames old now new folder.Failed grew counts = (omega (arith, grew, counts.0), λ same. rose_since old now new grew counts.1)
folder_blames old now new folder.Refused grew counts = (omega (arith, grew, counts.0), λ same. rose_since old now new grew counts.1)
folder_blames old now new folder.NoMemory grew counts = (omega (arith, grew, counts), λ same. cc same)

pub folder_unread : (fault : FolderFault) → of_folder fault ≢ puts.Source
folder_unread folder.Failed source = cc source
folder_unread folder.Refused source = cc source
folder_unread folder.NoMemory source = cc source

pub folder_undrawn : (fault : FolderFault) → of_folder fault ≢ puts.Random
folder_undrawn folder.Failed random = cc random
folder_undrawn folder.Refused random = cc random
folder_undrawn folder.NoMemory random = cc random
