use Rattle.json_fields.proofs.Base64.{alphabets_read}
use Rattle.json_fields.proofs.laws.base64_is_exact.Goals as goal

pub returns : goal.returns
returns c = alphabets_read
