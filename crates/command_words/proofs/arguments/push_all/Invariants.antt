use Rattle.std.proofs.Common.{◌≡◌, ◌++◌, map, take, string_bytes}
use Rattle.command_words.proofs.arguments.push_all.Given as goal

-- the first words have been added
abbrev pub invariant-loop-word : goal.invariant-loop-word
invariant-loop-word l = map (λ text. text.now) l.texts.items ≡ map (λ text. text.now) l.fn.texts.items ++ map (λ s. string_bytes s) (take l.word-index l.words)
