-- Words of private contracts: why a command that changes a vault doesn't begin.
use Rattle.folder_spec.specs.Path.{Path}
use Rattle.folder_spec.specs.View.{View}
use Rattle.open_for_changing.specs.Beginning.{OfSite, OfWork}
use Rattle.open_for_reading.specs.Refusing.{Unless}
use Rattle.command_answers.specs.declared.answer.Answer.{Answer}
use Rattle.command_words.specs.declared.commands.Change.{Change}

-- why a vault isn't opened beside a work folder
abbrev pub RefusesSite : Change → View → Answer → Type 0
RefusesSite change v answer = Unless answer (OfSite change v answer (λ vault. ⊥))

-- why a work folder isn't made ready
abbrev pub RefusesWork : View → Path → Answer → Type 0
RefusesWork v at answer = Unless answer (OfWork v at answer ⊥)
