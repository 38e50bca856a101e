use Rattle.std.proofs.Common.{◌≡◌, ◌++◌, length, map, option_map}
use Rattle.std.specs.Slice.Iter.{iter_rest}
use Rattle.command_words.proofs.WrittenValues.{Leads}
use Rattle.command_words.specs.Values.{values_of}
use Rattle.command_words.proofs.reading.words_read.Given as goal

-- the values so far, and then those of the words that are left
abbrev pub invariant-loop-one : goal.invariant-loop-one
invariant-loop-one l = record {
  all : option_map (λ more. l.values.items ++ more) (values_of (map (λ it. it.kind) l.shown) (map (λ word. word.now) (iter_rest l.words)))
      ≡ values_of (map (λ it. it.kind) l.fn.shown) (map (λ word. word.now) l.fn.words);
  written : Leads (map (λ it. it.kind) l.fn.shown) (map (λ it. it.kind) l.shown) l.values.items;
}

abbrev pub decreases-loop-one : goal.decreases-loop-one
decreases-loop-one l = length l.shown
