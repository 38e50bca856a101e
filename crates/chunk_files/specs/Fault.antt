-- The text of a fault, as messages show it.
use Rattle.std.specs.Prelude.{ℕ, List, ◌++◌, codes}
use Rattle.std.specs.Fmt.{decimal}
use Rattle.chunk_files.specs.declared.fault.ChunkFault.{ChunkFault}
use Rattle.chunk_files.specs.declared.fault.ChunkFault.TheVariants.{NoHeader, HeaderVersion, ZeroId, HeaderTag, ShortChunk, ZeroNonce, ChunkTag}

abbrev pub fault_text : ChunkFault → List ℕ
fault_text NoHeader = codes "no header"
fault_text (HeaderVersion version) = codes "header version " ++ decimal version
fault_text ZeroId = codes "zero file id"
fault_text HeaderTag = codes "header tag"
fault_text (ShortChunk number) = codes "chunk " ++ decimal number ++ codes " short"
fault_text (ZeroNonce number) = codes "chunk " ++ decimal number ++ codes " zero nonce"
fault_text (ChunkTag number) = codes "chunk " ++ decimal number ++ codes " tag"
