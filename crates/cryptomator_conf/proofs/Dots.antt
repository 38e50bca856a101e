-- A token taken apart.
use Rattle.std.proofs.Common.{◌≡◌, ℕ, ◌+◌, ◌==◌, ◌&&◌, ◌||◌, List, [], ◌∷◌, ◌++◌, Bool, true, false, not, cond, length, take, drop, codes, Some, option_map, inl, inr, refl, sym, ap, ap₂, ◌∙◌, arith, append_assoc, length-append}
use Rattle.std.specs.List.{list_all, position_from}
use Rattle.std.proofs.lemmas.Bool.{and_parts, cases_Bool, eqb-true}
use Rattle.std.proofs.lemmas.List.{take_at, drop_at}
use Rattle.std.proofs.lemmas.List.Folds.{list_all-append}
use Rattle.json_fields.specs.Base64.{is_base64url}
use Rattle.cryptomator_conf.specs.Jwt.{is_blank, is_dot, at_dot, trimmed, parts_of}

not-true : (b : Bool) → not b ≡ true → b ≡ false
not-true true yes_not = cc
not-true false yes_not = refl

-- the first place that passes a test
position-first : (p : ℕ → Bool) (i : ℕ) (xs : List ℕ) (y : ℕ) (ys : List ℕ) → list_all (λ c. not (p c)) xs ≡ true → p y ≡ true
    → position_from p i (xs ++ y ∷ ys) ≡ Some (i + length xs)
position-first p i [] y ys none here =
    let same : i ≡ i + 0 = omega arith in
    ap (λ b. cond b (Some i) (position_from p (i + 1) ys)) here ∙ ap Some same
position-first p i (x ∷ xs) y ys none here =
    let parts = and_parts (not (p x)) (list_all (λ c. not (p c)) xs) none in
    let same : i + 1 + length xs ≡ i + length (x ∷ xs) = omega arith in
    ap (λ b. cond b (Some i) (position_from p (i + 1) (xs ++ y ∷ ys))) (not-true (p x) parts.0)
    ∙ position-first p (i + 1) xs y ys parts.1 here ∙ ap Some same

-- the bytes on both sides of the first dot
at_dot-first : (xs ys : List ℕ) → list_all (λ c. not (is_dot c)) xs ≡ true → at_dot (xs ++ 46 ∷ ys) ≡ Some (xs, ys)
at_dot-first xs ys none =
    let bytes : List ℕ = xs ++ 46 ∷ ys in
    let behind : length (xs ++ 46 ∷ []) ≡ 0 + length xs + 1 = omega (arith, length-append xs (46 ∷ [])) in
    let front : take (0 + length xs) bytes ≡ xs = take_at xs (46 ∷ ys) (0 + length xs) (omega arith) in
    let rest : drop (0 + length xs + 1) bytes ≡ ys =
    ap (drop (0 + length xs + 1)) (sym (append_assoc xs (46 ∷ []) ys)) ∙ drop_at (xs ++ 46 ∷ []) ys (0 + length xs + 1) behind in
    ap (option_map (λ place. (take place bytes, drop (place + 1) bytes))) (position-first is_dot 0 xs 46 ys none refl)
    ∙ ap₂ (λ a b. Some (a, b)) front rest

-- base64 for URLs has neither dots nor blanks
another : (n c : ℕ) → is_base64url n ≡ false → is_base64url c ≡ true → (c == n) ≡ false
another n c outside is = elim (cases_Bool (c == n)) [
  | inl equal ↦
      let wrong : false ≡ true = sym outside ∙ ap is_base64url (sym (eqb-true c n equal)) ∙ is in
      cc
  | inr other ↦ other
]

no_dot : (c : ℕ) → is_base64url c ≡ true → not (is_dot c) ≡ true
no_dot c is = ap not (another 46 c refl is)

no_blank : (c : ℕ) → is_base64url c ≡ true → not (is_blank c) ≡ true
no_blank c is =
    ap (λ b. not (b || c == 13 || c == 32)) (another 10 c refl is)
    ∙ ap (λ b. not (b || c == 32)) (another 13 c refl is)
    ∙ ap not (another 32 c refl is)

all-weaker : (p q : ℕ → Bool) → ((c : ℕ) → p c ≡ true → q c ≡ true) → (xs : List ℕ) → list_all p xs ≡ true → list_all q xs ≡ true
all-weaker p q weaker [] all = refl
all-weaker p q weaker (x ∷ xs) all =
    let parts = and_parts (p x) (list_all p xs) all in
    ap₂ (λ a b. a && b) (weaker x parts.0) (all-weaker p q weaker xs parts.1)

all-joined : (p : ℕ → Bool) (xs ys : List ℕ) → list_all p xs ≡ true → list_all p ys ≡ true → list_all p (xs ++ ys) ≡ true
all-joined p xs ys left right = list_all-append p xs ys ∙ ap₂ (λ a b. a && b) left right

trimmed-plain : (bytes : List ℕ) → list_all (λ c. not (is_blank c)) bytes ≡ true → trimmed bytes ≡ bytes
unfolding trimmed
trimmed-plain [] none = refl
trimmed-plain (b ∷ bs) none =
    let parts = and_parts (not (is_blank b)) (list_all (λ c. not (is_blank c)) bs) none in
    ap (λ t. cond (t && list_all is_blank bs) [] (b ∷ trimmed bs)) (not-true (is_blank b) parts.0)
    ∙ ap (λ t. b ∷ t) (trimmed-plain bs parts.1)

-- what joined parts are parted into
pub parts-joined : (header payload signature : List ℕ) → list_all is_base64url header ≡ true → list_all is_base64url payload ≡ true
    → list_all is_base64url signature ≡ true
    → parts_of (trimmed (header ++ codes "." ++ payload ++ codes "." ++ signature)) ≡ Some (record { header = header; payload = payload; signature = signature })
parts-joined header payload signature h p s =
    let whole : List ℕ = header ++ codes "." ++ payload ++ codes "." ++ signature in
    let blankless = all-weaker is_base64url (λ c. not (is_blank c)) no_blank in
    let dotless = all-weaker is_base64url (λ c. not (is_dot c)) no_dot in
    let plain : list_all (λ c. not (is_blank c)) whole ≡ true =
    all-joined _ (header ++ codes "." ++ payload ++ codes ".") signature
    (all-joined _ (header ++ codes "." ++ payload) (codes ".") (all-joined _ (header ++ codes ".") payload (all-joined _ header (codes ".") (blankless header h) refl) (blankless payload p)) refl)
    (blankless signature s) in
    let nested : whole ≡ header ++ 46 ∷ (payload ++ 46 ∷ signature) =
    append_assoc (header ++ codes "." ++ payload) (codes ".") signature
    ∙ append_assoc (header ++ codes ".") payload (codes "." ++ signature) ∙ append_assoc header (codes ".") (payload ++ (codes "." ++ signature)) in
    ap parts_of (trimmed-plain whole plain ∙ nested)
    ∙ rw (at_dot-first header (payload ++ 46 ∷ signature) (dotless header h), at_dot-first payload signature (dotless payload p)) refl
