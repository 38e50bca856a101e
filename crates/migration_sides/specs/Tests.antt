-- Tests one after the other: the first that fails is the answer.
use Rattle.std.specs.Prelude.{◌≡◌, ◌⊎◌, Result, Ok, Err, MatchResult}

-- its own fault, where a test fails, and else what follows of what it gives
abbrev pub Then : {X Y F G : Type 0} → (F → G) → (Result X F → Type 0) → (X → Result Y G → Type 0) → Result Y G → Type 0
Then {X = X} {F = F} told test next answer = (tested : Result X F) × test tested × MatchResult tested (λ x. next x answer) (λ fault. answer ≡ Err (told fault))

-- a fault that is told as it is
abbrev pub own : {G : Type 0} → G → G
own fault = fault

-- two faults may always be, that the folder failed and that memory ran out
abbrev pub UnlessBy : {X G : Type 0} → G → G → Result X G → Type 0 → Type 0
UnlessBy failed no_memory answer P = (answer ≡ Err failed) ⊎ ((answer ≡ Err no_memory) ⊎ P)

-- passes where this is so, and fails by this fault where that is
abbrev pub PassesOr : {G : Type 0} → Type 0 → Type 0 → G → Result (Unit {0}) G → Type 0
PassesOr passes fails fault answer = (passes × (answer ≡ Ok tt)) ⊎ (fails × (answer ≡ Err fault))

-- nothing more is tested
abbrev pub all_pass : {X G : Type 0} → X → Result (Unit {0}) G → Type 0
all_pass x answer = answer ≡ Ok tt

-- nothing may follow
abbrev pub nothing_follows : {X Y G : Type 0} → X → Result Y G → Type 0
nothing_follows x answer = ⊥
