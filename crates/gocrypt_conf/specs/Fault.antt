-- The texts of faults, and the faults of fields.
use Rattle.std.specs.Prelude.{ℕ, List, ◌++◌, codes}
use Rattle.std.specs.Fmt.{decimal}
use Rattle.json_fields.specs.declared.fault.FieldFault.{FieldFault}
use Rattle.json_fields.specs.declared.fault.FieldFault.TheVariants as field
use Rattle.gocrypt_conf.specs.declared.fault.GoConfFault.{GoConfFault}
use Rattle.gocrypt_conf.specs.declared.fault.GoConfFault.TheVariants.{NotJson, Field, Version, Flag, Cost, Length, NoMemory}

-- the text of a fault, with the texts that it names as they are
abbrev pub fault_text : GoConfFault → List ℕ
fault_text NotJson = codes "not JSON"
fault_text (Field name) = codes "field " ++ name
fault_text (Version version) = codes "version " ++ decimal version
fault_text (Flag flag) = codes "flag " ++ flag
fault_text Cost = codes "cost"
fault_text (Length name) = codes "length " ++ name
fault_text NoMemory = codes "out of memory"

-- a field that isn't read
abbrev pub of_field : FieldFault → GoConfFault
of_field (field.Wrong name) = Field name
of_field field.NoMemory = NoMemory
