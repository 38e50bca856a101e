-- The texts of faults, and the faults of fields.
use Rattle.std.specs.Prelude.{ℕ, List, ◌++◌, codes}
use Rattle.std.specs.Fmt.{decimal}
use Rattle.json_fields.specs.declared.fault.FieldFault.{FieldFault}
use Rattle.json_fields.specs.declared.fault.FieldFault.TheVariants as field
use Rattle.cryptomator_conf.specs.declared.fault.CmConfFault.{CmConfFault}
use Rattle.cryptomator_conf.specs.declared.fault.CmConfFault.TheVariants.{NotJson, NotJwt, Field, Alg, Kid, Format, Combo, Threshold, Cost, NoMemory}

-- the text of a fault, with the texts that it names as they are
abbrev pub fault_text : CmConfFault → List ℕ
fault_text NotJson = codes "not JSON"
fault_text NotJwt = codes "not JWT"
fault_text (Field name) = codes "field " ++ name
fault_text (Alg alg) = codes "alg " ++ alg
fault_text (Kid kid) = codes "kid " ++ kid
fault_text (Format format) = codes "format " ++ decimal format
fault_text (Combo combo) = codes "combo " ++ combo
fault_text (Threshold threshold) = codes "threshold " ++ decimal threshold
fault_text Cost = codes "cost"
fault_text NoMemory = codes "out of memory"

-- a field that isn't read
abbrev pub of_field : FieldFault → CmConfFault
of_field (field.Wrong name) = Field name
of_field field.NoMemory = NoMemory
