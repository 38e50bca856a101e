use Rattle.std.proofs.Common.{sym, ◌∙◌}
use Rattle.std.specs.Str.{bytes_eq}
use Rattle.json_fields.proofs.Texts.{any_text}
use Rattle.gocrypt_conf.proofs.reading.contains.Goals as goal

pub returns : goal.returns
returns c = c.contains.ensures.value ∙ sym (any_text (λ text. bytes_eq text c.args.text.now) c.args.texts.now)
