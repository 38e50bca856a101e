use Rattle.std.proofs.Common.{◌≡◌, false, refl}
use Rattle.chunk_files.specs.Keys.{format_of}
use Rattle.cryptomator_conf.specs.declared.conf.Combo.{Combo}
use Rattle.cryptomator_conf.specs.declared.conf.Combo.TheVariants.{SivGcm, SivCtrMac}
use Rattle.vault_values.specs.declared.keys.CmKeys.{CmKeys}
use Rattle.vault_spec.specs.Cryptomator.{contents_by}
use Rattle.vault_spec.proofs.laws.contents_of_cryptomator_refuse_no_zeros.Goals as goal

none_by : (combo : Combo) (keys : CmKeys) → (format_of (contents_by combo keys)).refuses_zeros ≡ false
none_by SivGcm keys = refl
none_by SivCtrMac keys = refl

pub returns : goal.returns
returns c vault = none_by vault.combo vault.keys
