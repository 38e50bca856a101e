-- The names of a vault's ciphers.
use Rattle.std.specs.Prelude.{ℕ, List, codes, if◌then◌else◌, Option, Some, None}
use Rattle.std.specs.Str.{bytes_eq}
use Rattle.cryptomator_conf.specs.declared.conf.Combo.{Combo}
use Rattle.cryptomator_conf.specs.declared.conf.Combo.TheVariants.{SivGcm, SivCtrMac}

abbrev pub combo_name : Combo → List ℕ
combo_name SivGcm = codes "SIV_GCM"
combo_name SivCtrMac = codes "SIV_CTRMAC"

-- the ciphers of a vault by their name
abbrev pub combo_of : List ℕ → Option Combo
combo_of name =
    if bytes_eq name (combo_name SivGcm) then Some SivGcm
    else (if bytes_eq name (combo_name SivCtrMac) then Some SivCtrMac else None)
