-- Which faults are answered, and how counts of faults rise.
use Rattle.std.specs.Prelude.{IfErr}
use Rattle.std.proofs.Common.{arith, ◌≡◌, ◌≤◌, ℕ, Option, Result, Ok, Err, inl, inr, sym, ◌∙◌, subst}
use Rattle.item_making.specs.Faults.{of_folder}
use Rattle.item_making.specs.declared.fault.PutFault.{PutFault}
use Rattle.item_making.specs.declared.fault.PutFault.TheVariants as puts
use Rattle.folder_spec.specs.declared.FolderFault.TheVariants as folder
use Rattle.port_model.specs.Counts.{CountRose}
use Rattle.content_writing.specs.Content.{FitsContent}
use Rattle.vault_write.specs.Faults.{IsDirectoryFault, IsFileFault, IsPlaceFault}
use Rattle.chunk_files.specs.Keys.{Keys}
use Rattle.plain_tree.specs.Names as plain
use Rattle.vault_spec.specs.Opened.{OpenedVault}
use Rattle.vault_write.specs.Calls.{Writing}
use Rattle.vault_write.specs.Filing.{IsAtDirectory, PlacesBy, StopsBy}
use Rattle.folder_spec.specs.declared.FolderFault.{FolderFault}
use Rattle.folder_spec.specs.declared.Kind.{Kind}
use Rattle.folder_spec.specs.Event.{Told}
use Rattle.folder_spec.specs.Path.{Path}
use Rattle.folder_spec.specs.View.{kind_found}
use Rattle.folder_model.specs.Answers.{Answers, Counts, CountsAbove}
use Rattle.folder_model.proofs.Counting.{never_falls, counts_above, answer_not_refused}

pub kind_counts : (t : Option Told) (n0 n1 : ℕ) (at : Path) (result : Result Kind FolderFault) → Answers t (λ v. Unit {0}) (λ v kind. kind ≡ kind_found (v at)) result → Counts t n0 n1 result → CountsAbove n0 n1 result
kind_counts t n0 n1 at (Ok kind) answers counts = never_falls {T = Kind} t n0 n1 (Ok kind) counts
kind_counts t n0 n1 at (Err fault) answers counts =
    counts_above Kind Kind t n0 n1 fault (answer_not_refused {T = Kind} t (λ v. Unit {0}) (λ v kind. kind ≡ kind_found (v at)) fault (λ v is. tt) answers) counts

-- a count that rose later rose since then
pub rose_since : (n0 n1 n2 : ℕ) → n0 ≤ n1 → CountRose n1 n2 → CountRose n0 n2
rose_since n0 n1 n2 grew (inl rose) = inl (omega (arith, grew, rose))
rose_since n0 n1 n2 grew (inr full) = inr full

-- a fault of the folder is a failure only where its count rose
pub rose_by_folder : (n0 n1 n2 : ℕ) (fault : FolderFault) (result : Result (Unit {0}) PutFault) → n0 ≤ n1 → CountsAbove {T = Unit {0}} n1 n2 (Err fault) → result ≡ Err (of_folder fault) → result ≡ Err puts.Failed
    → CountRose n0 n2
rose_by_folder n0 n1 n2 folder.Failed result grew counts is failed = rose_since n0 n1 n2 grew counts.1
rose_by_folder n0 n1 n2 folder.Refused result grew counts is failed = rose_since n0 n1 n2 grew counts.1
rose_by_folder n0 n1 n2 folder.NoMemory result grew counts is failed = let clash : Err puts.NoMemory ≡ Err puts.Failed = sym is ∙ failed in cc

pub not_random : (fault : FolderFault) (result : Result (Unit {0}) PutFault) → result ≡ Err (of_folder fault) → result ≡ Err puts.Random → ⊥
not_random folder.Failed result is random = let clash : Err puts.Failed ≡ Err puts.Random = sym is ∙ random in cc
not_random folder.Refused result is random = let clash : Err puts.Failed ≡ Err puts.Random = sym is ∙ random in cc
not_random folder.NoMemory result is random = let clash : Err puts.NoMemory ≡ Err puts.Random = sym is ∙ random in cc

pub folder_is_directory_fault : (fault : FolderFault) → IsDirectoryFault (of_folder fault)
folder_is_directory_fault folder.Failed = tt
folder_is_directory_fault folder.Refused = tt
folder_is_directory_fault folder.NoMemory = tt

-- looking for places doesn't draw
pub place_not_random : (fault : PutFault) (result : Result (Unit {0}) PutFault) → IsPlaceFault fault → result ≡ Err fault → result ≡ Err puts.Random → ⊥
place_not_random fault result place is random = let same : fault ≡ puts.Random = cc in subst IsPlaceFault same place

pub place_is_directory_fault : (fault : PutFault) → IsPlaceFault fault → IsDirectoryFault fault
place_is_directory_fault (puts.Find fault) place = place
place_is_directory_fault (puts.NotAllowed path) place = tt
place_is_directory_fault (puts.Taken at) place = tt
place_is_directory_fault puts.Failed place = tt
place_is_directory_fault puts.NoMemory place = tt
place_is_directory_fault fault place = absurd place

pub is_directory_fault : (fault : PutFault) (result : Result (Unit {0}) PutFault) → IsDirectoryFault fault → result ≡ Err fault → IfErr result IsDirectoryFault
is_directory_fault fault result directory is = subst (λ r. IfErr r IsDirectoryFault) (sym is) directory

pub place_is_file_fault : (reads : Option Path) (fault : PutFault) → IsPlaceFault fault → IsFileFault reads fault
place_is_file_fault reads (puts.Find fault) place = place
place_is_file_fault reads (puts.NotAllowed path) place = tt
place_is_file_fault reads (puts.Taken at) place = tt
place_is_file_fault reads puts.Failed place = tt
place_is_file_fault reads puts.NoMemory place = tt
place_is_file_fault reads fault place = absurd place

pub directory_is_place_fault : (vault : OpenedVault) (path : plain.Path) (told : Option Told) (fault : PutFault) → IsAtDirectory vault path told fault → IsPlaceFault fault
directory_is_place_fault vault path told fault (inl failed) = subst IsPlaceFault (sym failed) tt
directory_is_place_fault vault path told fault (inr (inl memory)) = subst IsPlaceFault (sym memory) tt
directory_is_place_fault vault path told fault (inr (inr found)) = subst IsPlaceFault (sym found.0) tt

pub directory_is_file_fault : (reads : Option Path) (vault : OpenedVault) (path : plain.Path) (told : Option Told) (fault : PutFault) → IsAtDirectory vault path told fault → IsFileFault reads fault
directory_is_file_fault reads vault path told fault is = place_is_file_fault reads fault (directory_is_place_fault vault path told fault is)

-- writing a content looks for no path
pub stop_is_file_fault : (reads : Option Path) (keys : Keys) (w : Writing) (fault : PutFault) → StopsBy keys w fault → FitsContent reads fault → IsFileFault reads fault
stop_is_file_fault reads keys w (puts.Find fault) stops fits = absurd stops
stop_is_file_fault reads keys w fault stops fits = fits

pub placing_is_file_fault : (reads : Option Path) (keys : Keys) (w : Writing) (Does : Result (Unit {0}) FolderFault → Type 0) (Only : Type 0) (result : Result (Unit {0}) PutFault) → PlacesBy keys w Does Only result
    → IfErr result (λ fault. FitsContent reads fault) → IfErr result (λ fault. IsFileFault reads fault)
placing_is_file_fault reads keys w Does Only (Ok value) ends fits = tt
placing_is_file_fault reads keys w Does Only (Err fault) ends fits = stop_is_file_fault reads keys w fault ends.0 fits

pub is_file_fault : (reads : Option Path) (fault : PutFault) (result : Result (Unit {0}) PutFault) → IsFileFault reads fault → result ≡ Err fault → IfErr result (λ fault. IsFileFault reads fault)
is_file_fault reads fault result file is = subst (λ r. IfErr r (λ fault. IsFileFault reads fault)) (sym is) file
