-- Bytes that are all zero.
use Rattle.std.specs.Prelude.{ℕ, Bool, List, ◌==◌}
use Rattle.std.specs.List.{list_all}

-- whether no byte is other than zero
abbrev pub is_all_zero : List ℕ → Bool
is_all_zero bytes = list_all (λ byte. byte == 0) bytes
