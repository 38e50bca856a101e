use Rattle.std.proofs.Common.{◌≡◌, ◌++◌, length, map, string_bytes}
use Rattle.command_words.specs.Words.{choices_in}
use Rattle.command_words.proofs.arguments.choices_in.Given as goal

-- the options so far, and then those among the words that are left
abbrev pub invariant-loop-word : goal.invariant-loop-word
invariant-loop-word l =
    l.choices.items ++ choices_in (map (λ flag. flag.name.now) l.flags) (map (λ s. string_bytes s) l.rest) ≡ choices_in (map (λ flag. flag.name.now) l.flags) (map (λ s. string_bytes s) l.words)

abbrev pub decreases-loop-word : goal.decreases-loop-word
decreases-loop-word l = length l.rest
