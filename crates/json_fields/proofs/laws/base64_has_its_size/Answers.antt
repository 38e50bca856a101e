use Rattle.json_fields.proofs.Symbols.{length-base64}
use Rattle.json_fields.proofs.laws.base64_has_its_size.Goals as goal

pub returns : goal.returns
returns c = length-base64
