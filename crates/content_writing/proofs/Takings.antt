-- How many bytes are taken of a source.
use Rattle.std.proofs.Common.{◌≤◌, ◌+◌, ℕ, List, [], ◌++◌, length, Option, Some, None, refl, sym, ap, ◌∙◌, append_assoc, length-append, arith}
use Rattle.content_writing.specs.Content.{TakesUpTo}

pub takes_none : (most : ℕ) (a : Option (List ℕ)) → TakesUpTo most a a
takes_none most None = tt
takes_none most (Some left) = ([], refl, omega arith)

pub takes_fewer : (few most : ℕ) (a b : Option (List ℕ)) → few ≤ most → TakesUpTo few a b → TakesUpTo most a b
takes_fewer few most None b fewer taken = tt
takes_fewer few most (Some left) None fewer taken = absurd taken
takes_fewer few most (Some left) (Some left') fewer taken = (taken.0, taken.1, omega (arith, fewer, taken.2))

pub takes_more : (first then most : ℕ) (a b c : Option (List ℕ)) → first + then ≤ most → TakesUpTo first a b → TakesUpTo then b c → TakesUpTo most a c
takes_more first then most None b c within taken more = tt
takes_more first then most (Some left) None c within taken more = absurd taken
takes_more first then most (Some left) (Some left') None within taken more = absurd more
takes_more first then most (Some left) (Some left') (Some left'') within taken more =
    (taken.0 ++ more.0, taken.1 ∙ ap (λ bytes. taken.0 ++ bytes) more.1 ∙ sym (append_assoc taken.0 more.0 left''), omega (arith, within, taken.2, more.2, length-append taken.0 more.0))
