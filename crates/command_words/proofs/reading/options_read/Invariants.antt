use Rattle.std.proofs.Common.{◌≡◌, ◌++◌, drop, map, option_map}
use Rattle.command_words.proofs.WrittenValues.{Leads}
use Rattle.command_words.specs.Rows.{option_of_code}
use Rattle.command_words.specs.Values.{option_values}
use Rattle.command_words.proofs.reading.options_read.Given as goal

-- the values so far, and then those of the options that are left
abbrev pub invariant-loop-valued : goal.invariant-loop-valued
invariant-loop-valued l = record {
  all : option_map (λ more. l.values.items ++ more) (option_values l.choices (map option_of_code (drop l.valued-index l.options)))
      ≡ option_values l.choices (map option_of_code l.options);
  written : Leads (map (λ valued. valued.kind) (map option_of_code l.options)) (map (λ valued. valued.kind) (map option_of_code (drop l.valued-index l.options))) l.values.items;
}
