-- What private clauses see of what was read.
use Rattle.serde_json.specs.View.{view}
use Rattle.cryptomator_conf.specs.declared.jwt as token
use Rattle.cryptomator_conf.specs.declared.master as master
use Rattle.cryptomator_conf.specs.declared.vault as vault
use Rattle.cryptomator_conf.specs.Jwt.{Jwt, Parts}
use Rattle.cryptomator_conf.specs.Master.{MasterFields}
use Rattle.cryptomator_conf.specs.Vault.{VaultFields, Settings}

abbrev pub master_view : master.MasterFields.MasterFields → MasterFields
master_view f =
    record { salt = f.salt.items; n = f.n; r = f.r; primary = f.primary; hmac = f.hmac }

abbrev pub parts_view : token.Parts.Parts → Parts
parts_view p =
    record { header = p.header.now; payload = p.payload.now; signature = p.signature.now }

abbrev pub jwt_view : token.Jwt.Jwt → Jwt
jwt_view j =
    record { header = view j.header; payload = view j.payload; signed = j.signed.items; signature = j.signature.items }

abbrev pub fields_view : vault.VaultFields.VaultFields → VaultFields
fields_view f =
    record { alg = f.alg.now; kid = f.kid.now; format = f.format; combo = f.combo.now; threshold = f.threshold }

abbrev pub settings_view : vault.Settings.Settings → Settings
settings_view s = record { alg = s.alg; combo = s.combo; threshold = s.threshold }
