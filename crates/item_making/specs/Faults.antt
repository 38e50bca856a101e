-- How the faults of the crates below are told, and which faults a call answers.
use Rattle.chunk_files.specs.declared.fault.EncodeFault.{EncodeFault}
use Rattle.chunk_files.specs.declared.fault.EncodeFault.TheVariants as encodes
use Rattle.folder_spec.specs.declared.FolderFault.{FolderFault}
use Rattle.folder_spec.specs.declared.FolderFault.TheVariants as folder
use Rattle.vault_faults.specs.declared.fault.CatFault.{CatFault}
use Rattle.vault_faults.specs.declared.fault.CatFault.TheVariants as cats
use Rattle.vault_faults.specs.declared.fault.FindFault.{FindFault}
use Rattle.vault_faults.specs.declared.fault.FindFault.TheVariants as finds
use Rattle.item_making.specs.declared.fault.PutFault.{PutFault}
use Rattle.item_making.specs.declared.fault.PutFault.TheVariants.{Find, Damaged, Limit, ZeroRandom, Random, Failed, NoMemory}

abbrev pub of_folder : FolderFault → PutFault
of_folder folder.Failed = Failed
of_folder folder.Refused = Failed
of_folder folder.NoMemory = NoMemory

abbrev pub of_find : FindFault → PutFault
of_find (finds.NotFound path) = Find (finds.NotFound path)
of_find (finds.WrongKind path) = Find (finds.WrongKind path)
of_find (finds.NoDirKey at) = Find (finds.NoDirKey at)
of_find (finds.NoFolder at) = Find (finds.NoFolder at)
of_find finds.Failed = Failed
of_find finds.NoMemory = NoMemory

-- reading a content has no output that fails, and looks for no path
abbrev pub of_cat : CatFault → PutFault
of_cat (cats.Find fault) = of_find fault
of_cat (cats.Damaged at fault) = Damaged at fault
of_cat (cats.Limit limit) = Limit limit
of_cat cats.Sink = Failed
of_cat cats.Failed = Failed
of_cat cats.NoMemory = NoMemory

abbrev pub of_encoding : EncodeFault → PutFault
of_encoding encodes.Random = Random
of_encoding encodes.ZeroRandom = ZeroRandom
