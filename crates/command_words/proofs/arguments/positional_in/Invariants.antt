use Rattle.std.proofs.Common.{◌≡◌, ◌++◌, false, length, map, string_bytes}
use Rattle.command_words.specs.Words.{positional_in}
use Rattle.command_words.proofs.arguments.positional_in.Given as goal

-- the positional words so far, and then those among the words that are left
abbrev pub invariant-loop-word : goal.invariant-loop-word
invariant-loop-word l =
    map (λ word. word.now) l.positional.items ++ positional_in (map (λ flag. flag.name.now) l.flags) l.taken (map (λ s. string_bytes s) l.rest) ≡ positional_in (map (λ flag. flag.name.now) l.flags) false (map (λ s. string_bytes s) l.words)

abbrev pub decreases-loop-word : goal.decreases-loop-word
decreases-loop-word l = length l.rest
