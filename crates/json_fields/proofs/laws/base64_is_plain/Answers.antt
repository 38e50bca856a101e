use Rattle.json_fields.proofs.Plain.{escape-base64}
use Rattle.json_fields.proofs.laws.base64_is_plain.Goals as goal

pub returns : goal.returns
returns c = escape-base64
