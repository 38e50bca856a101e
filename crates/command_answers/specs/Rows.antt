-- Which statuses a command may end with: those of its row, and 0 and 3, since all may be done and memory may be refused to each. It ends with
-- no other, whatever the folder and the streams do.
use Rattle.std.specs.Prelude.{ℕ, Bool, ◌==◌, ◌||◌, List, [], ◌∷◌, Option, None, Some, IsTrue}
use Rattle.std.specs.List.{list_any}
use Rattle.command_answers.specs.Answers.{status_of}
use Rattle.command_answers.specs.declared.answer.Answer.{Answer}
use Rattle.command_words.specs.Commands.{verb_of}
use Rattle.command_words.specs.Rows.{row_of}
use Rattle.command_words.specs.declared.commands.Command.{Command}

-- words that make no command end with 2 or 3
abbrev pub statuses_of : Option Command → List ℕ
statuses_of None = 2 ∷ 3 ∷ []
statuses_of (Some command) = 0 ∷ 3 ∷ (row_of (verb_of command)).statuses

-- those that only a folder may lead to which contradicts itself, as one that tells its state doesn't
abbrev pub contradicted_of : Option Command → List ℕ
contradicted_of None = []
contradicted_of (Some command) = (row_of (verb_of command)).contradicted

abbrev pub is_among : List ℕ → ℕ → Bool
is_among statuses status = list_any (λ each. each == status) statuses

-- over any folder
abbrev pub may_end : Option Command → ℕ → Bool
may_end command status = is_among (statuses_of command) status || is_among (contradicted_of command) status

-- over a folder that tells its state
abbrev pub may_end_told : Option Command → ℕ → Bool
may_end_told command status = is_among (statuses_of command) status

-- it may end with this answer: over any folder, and over one that tells its state
abbrev pub Ends : Option Command → Answer → Type 0
Ends command answer = IsTrue (may_end command (status_of answer))

abbrev pub EndsTold : Option Command → Answer → Type 0
EndsTold command answer = IsTrue (may_end_told command (status_of answer))
