-- Keys of directories are of bytes.
use Rattle.std.proofs.Common.{◌≡◌, ℕ, zero, suc, Bool, true, false, List, [], ◌∷◌, Some, None, cond, refl, arith, nat_lt, ◌++◌, IsTrue, sym, ◌∙◌}
use Rattle.std.specs.List.{list_all}
use Rattle.std.proofs.lemmas.Bool.{and_parts, ltb-true}
use Rattle.std.proofs.lemmas.List.Folds.{list_all-append}
use Rattle.aes_lanes.specs.Bytes.{AreBytes}
use Rattle.vault_spec.specs.Format.{is_bytes}

-- what is given where a test is true
pub given : {A : Type 0} (b : Bool) (x y : A) → cond b (Some x) None ≡ Some y → (b ≡ true) × (x ≡ y)
given true x y e = (refl, cc)
given false x y e = cc

pub are_bytes : (xs : List ℕ) → is_bytes xs ≡ true → AreBytes xs
are_bytes [] e k = omega (arith)
are_bytes (x ∷ xs) e zero = ltb-true x 256 (and_parts (nat_lt x 256) (is_bytes xs) e).0
are_bytes (x ∷ xs) e (suc k) = are_bytes xs (and_parts (nat_lt x 256) (is_bytes xs) e).1 k

-- nothing is given where a test is true
pub none_given : {A : Type 0} (b : Bool) (x : A) → cond b None (Some x) ≡ None → b ≡ true
none_given true x e = refl
none_given false x e = cc

-- the front of what is of such characters is so too
pub front_plain : (p : ℕ → Bool) (front rest : List ℕ) → IsTrue (list_all p (front ++ rest)) → IsTrue (list_all p front)
front_plain p front rest all = (and_parts (list_all p front) (list_all p rest) (sym (list_all-append p front rest) ∙ all)).0

-- and so is what follows
pub right_plain : (p : ℕ → Bool) (front rest : List ℕ) → IsTrue (list_all p (front ++ rest)) → IsTrue (list_all p rest)
right_plain p front rest all = (and_parts (list_all p front) (list_all p rest) (sym (list_all-append p front rest) ∙ all)).1
