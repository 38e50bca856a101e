-- Parts of a chain of tests, of which the folder may always fail and memory run out: a part that passes, one that refuses, and what is
-- told on.
use Rattle.std.proofs.Common.{◌≡◌, inl, inr, IfErr, IsErrAnd, Result, Ok, Err, refl, sym, ap, subst}
use Rattle.migration_sides.specs.Tests.{Then, UnlessBy, own}

abbrev failing : {G : Type 0} (Y : Type 0) → G → Result Y G
failing Y fault = Err fault

pub err_is : {Y Z G : Type 0} (fault why : G) → failing Y fault ≡ Err why → failing Z fault ≡ Err why
err_is {Z = Z} fault why e =
    let same : fault ≡ why = cc e in
    ap (failing Z) same

-- what holds of the fault that a call gave holds of what the exit of a `?` answers
pub refused_as : {Y G : Type 0} {why : G} (P : Result Y G → Type 0) (answer : Result Y G) → IsErrAnd answer (λ fault. fault ≡ why) → P (Err why) → P answer
refused_as P (Ok value) is h = absurd is
refused_as {G = G} P (Err fault) is h = subst (λ (x : G). P (Err x)) (sym is) h

pub fault_as : {Y G : Type 0} {why : G} (Q : G → Type 0) (answer : Result Y G) → IsErrAnd answer (λ fault. fault ≡ why) → Q why → IfErr answer Q
fault_as Q = refused_as (λ answer. IfErr answer Q)

module _ {G : Type 0} (failed none : G) where
  pub unless_more : {X : Type 0} (answer : Result X G) (P Q : Type 0) → (P → Q) → UnlessBy failed none answer P → UnlessBy failed none answer Q
  unless_more answer P Q more (inl fails) = inl fails
  unless_more answer P Q more (inr (inl full)) = inr (inl full)
  unless_more answer P Q more (inr (inr p)) = inr (inr (more p))

  pub passed_is : {X : Type 0} (x : X) (P : Type 0) → UnlessBy failed none (Ok x) P → P
  passed_is x P (inl e) = cc e
  passed_is x P (inr (inl e)) = cc e
  passed_is x P (inr (inr p)) = p

  -- a chain of which no test fails, unless chance has it otherwise
  pub unless_met : {X : Type 0} (Chance : G → Type 0) → Chance failed → Chance none → (answer : Result X G) (P : Type 0) → (P → IfErr answer Chance) → UnlessBy failed none answer P → IfErr answer Chance
  unless_met {X = X} Chance one other answer P meets (inl fails) = subst (λ (x : Result X G). IfErr x Chance) (sym fails) one
  unless_met {X = X} Chance one other answer P meets (inr (inl full)) = subst (λ (x : Result X G). IfErr x Chance) (sym full) other
  unless_met Chance one other answer P meets (inr (inr p)) = meets p

  -- the same refusal of a chain that gives something else
  pub unless_err : {Y Z : Type 0} (fault : G) (P Q : Type 0) → (P → Q) → UnlessBy {X = Y} failed none (Err fault) P → UnlessBy {X = Z} failed none (Err fault) Q
  unless_err fault P Q more (inl fails) = inl (err_is fault failed fails)
  unless_err fault P Q more (inr (inl full)) = inr (inl (err_is fault none full))
  unless_err fault P Q more (inr (inr p)) = inr (inr (more p))

  -- ---- a test that passes

  pub then_passes : {X Y F : Type 0} (told : F → G) (test : Result X F → Type 0) (next : X → Result Y G → Type 0) (answer : Result Y G) (x : X) → test (Ok x)
      → UnlessBy failed none answer (next x answer) → UnlessBy failed none answer (Then told test next answer)
  then_passes told test next answer x passed = unless_more answer (next x answer) (Then told test next answer) (λ n. (Ok x, passed, n))

  pub own_passes : {X Y : Type 0} (test : Result X G → Type 0) (next : X → Result Y G → Type 0) (answer : Result Y G) (x : X) → UnlessBy failed none (Ok x) (test (Ok x))
      → UnlessBy failed none answer (next x answer) → UnlessBy failed none answer (Then own test next answer)
  own_passes test next answer x passed = then_passes own test next answer x (passed_is x (test (Ok x)) passed)

  -- ---- a test that refuses

  pub then_refused : {X Y F : Type 0} (told : F → G) (test : Result X F → Type 0) (next : X → Result Y G → Type 0) (why : F) → test (Err why)
      → UnlessBy {X = Y} failed none (Err (told why)) (Then told test next (Err (told why)))
  then_refused told test next why refused = inr (inr (Err why, refused, refl))

  pub own_refused : {X Z : Type 0} (test : Result X G → Type 0) (next : X → Result Z G → Type 0) (fault : G) → UnlessBy {X = X} failed none (Err fault) (test (Err fault))
      → UnlessBy {X = Z} failed none (Err fault) (Then own test next (Err fault))
  own_refused test next fault = unless_err fault (test (Err fault)) (Then own test next (Err fault)) (λ t. (Err fault, t, refl))

  -- ---- what a part refuses, the chain refuses

  pub then_more : {X Y Z F : Type 0} (told : F → G) (test : Result X F → Type 0) (next : X → Result Y G → Type 0) (next' : X → Result Z G → Type 0) (fault : G)
      → ((x : X) → next x (Err fault) → next' x (Err fault)) → Then told test next (Err fault) → Then told test next' (Err fault)
  then_more told test next next' fault more (Ok x, passed, n) = (Ok x, passed, more x n)
  then_more told test next next' fault more (Err why, refused, is) = (Err why, refused, err_is fault (told why) is)

  pub part_refused : {X Y Z F : Type 0} (told : F → G) (test : Result X F → Type 0) (next : X → Result Y G → Type 0) (next' : X → Result Z G → Type 0) (fault : G)
      → ((x : X) → next x (Err fault) → next' x (Err fault)) → UnlessBy {X = Y} failed none (Err fault) (Then told test next (Err fault))
      → UnlessBy {X = Z} failed none (Err fault) (Then told test next' (Err fault))
  part_refused told test next next' fault more = unless_err fault (Then told test next (Err fault)) (Then told test next' (Err fault)) (then_more told test next next' fault more)
