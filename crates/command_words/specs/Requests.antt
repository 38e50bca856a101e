-- What words ask for: the row of the first word's name, and what the others write by it. Any other words ask for nothing.
use Rattle.std.specs.Prelude.{ℕ, List, [], ◌∷◌, Option, None, option_map, option_and_then}
use Rattle.command_words.specs.Rows.{Row, row_named}
use Rattle.command_words.specs.Values.{written}
use Rattle.command_words.specs.declared.values.Value.{Value}

pub record Request : Type 0 where
  pub row : Row
  pub values : List Value

abbrev pub request_in : List (List ℕ) → Row → Option Request
request_in words row = option_map (λ values. record { row = row; values = values }) (written row words)

abbrev pub request_of : List (List ℕ) → Option Request
request_of [] = None
request_of (name ∷ rest) = option_and_then (request_in rest) (row_named name)
