-- Which faults the calls answer. That the folder failed or memory was refused is told as such, and not as a path that isn't found.
use Rattle.std.specs.Prelude.{Option}
use Rattle.folder_spec.specs.Path.{Path}
use Rattle.content_writing.specs.Content.{FitsContent}
use Rattle.item_making.specs.declared.fault.PutFault.{PutFault}
use Rattle.item_making.specs.declared.fault.PutFault.TheVariants as puts
use Rattle.vault_read.specs.Contents.{IsOfPath}
use Rattle.item_making.specs.declared.fault.PutFault.TheVariants.{Find, Damaged, Limit, ZeroRandom, Random, Failed, NoMemory}

-- the answers of `place_dir`
abbrev pub IsDirectoryFault : PutFault → Type 0
IsDirectoryFault (Find fault) = IsOfPath fault
IsDirectoryFault (puts.NotAllowed path) = Unit {0}
IsDirectoryFault (puts.Taken at) = Unit {0}
IsDirectoryFault (Damaged at fault) = ⊥
IsDirectoryFault (Limit limit) = ⊥
IsDirectoryFault ZeroRandom = Unit {0}
IsDirectoryFault puts.Source = ⊥
IsDirectoryFault Random = Unit {0}
IsDirectoryFault Failed = Unit {0}
IsDirectoryFault NoMemory = Unit {0}

-- the answers of looking for the places of an item
abbrev pub IsPlaceFault : PutFault → Type 0
IsPlaceFault (Find fault) = IsOfPath fault
IsPlaceFault (puts.NotAllowed path) = Unit {0}
IsPlaceFault (puts.Taken at) = Unit {0}
IsPlaceFault (Damaged at fault) = ⊥
IsPlaceFault (Limit limit) = ⊥
IsPlaceFault ZeroRandom = ⊥
IsPlaceFault puts.Source = ⊥
IsPlaceFault Random = ⊥
IsPlaceFault Failed = Unit {0}
IsPlaceFault NoMemory = Unit {0}

-- the answers of `place_file` and `put`, by the path that the content reads
abbrev pub IsFileFault : Option Path → PutFault → Type 0
IsFileFault reads (Find fault) = IsOfPath fault
IsFileFault reads fault = FitsContent reads fault
