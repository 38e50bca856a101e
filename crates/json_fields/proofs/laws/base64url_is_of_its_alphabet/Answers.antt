use Rattle.json_fields.proofs.Symbols.{are_base64url, length-base64url}
use Rattle.json_fields.proofs.laws.base64url_is_of_its_alphabet.Goals as goal

pub returns : goal.returns
returns c = record { characters = are_base64url; size = length-base64url }
