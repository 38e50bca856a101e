use Rattle.std.proofs.Common.{◌≡◌, ◌<◌, ◌≤◌, ◌-◌, ℕ, [], false, get_or, length, map, string_bytes}
use Rattle.command_words.specs.Words.{ends_options}
use Rattle.command_words.proofs.arguments.end_of.Given as goal

-- none of the words before it ends the options
abbrev pub invariant-loop-end : goal.invariant-loop-end
invariant-loop-end l = record {
  within : l.end ≤ length l.words;
  before : (k : ℕ) → k < l.end → ends_options (get_or (map (λ s. string_bytes s) l.words) k []) ≡ false;
}

abbrev pub decreases-loop-end : goal.decreases-loop-end
decreases-loop-end l = length l.words - l.end
