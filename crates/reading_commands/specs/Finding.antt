-- The answer to a plain path that isn't found or entered.
use Rattle.std.specs.Prelude.{◌++◌}
use Rattle.folder_spec.specs.Path.{Path}
use Rattle.vault_spec.specs.Find.{Refusal, NotFound, WrongKind, Locked}
use Rattle.vault_spec.specs.declared.Lack.{Lack}
use Rattle.vault_spec.specs.declared.Lack.TheVariants as lacks
use Rattle.command_answers.specs.declared.answer.Answer.{Answer}
use Rattle.command_answers.specs.declared.answer.Answer.TheVariants as answer
use Rattle.command_answers.specs.declared.answer.Named.TheVariants as named
use Rattle.command_answers.specs.declared.answer.Damage.{Damage}
use Rattle.command_answers.specs.declared.answer.Damage.TheVariants as damage

abbrev pub damage_of : Lack → Damage
damage_of lacks.NoDirKey = damage.NoDirKey
damage_of lacks.NoFolder = damage.NoFolder

abbrev pub answer_to_finding : Path → Refusal → Answer
answer_to_finding root (NotFound path) = answer.NotFound (named.Plain path)
answer_to_finding root (WrongKind path) = answer.WrongKind (named.Plain path)
answer_to_finding root (Locked at lack) = answer.Damaged (root ++ at) (damage_of lack)
