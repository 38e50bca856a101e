-- Steps of reading a text, byte by byte and part by part.
use Rattle.std.proofs.Common.{Bool, true, false, cond, nat_lt, ◌==◌, ◌≡◌, ℕ, zero, suc, ◌+◌, ◌<◌, ◌≤◌, List, [], ◌∷◌, ◌++◌, length, get_or, drop, Option, Some, None, refl, sym, ap, ◌∙◌, append_assoc, arith}
use Rattle.std.proofs.lemmas.List.{drop-drop}
use Rattle.std.specs.Option.{option_map, option_and_then}
use Rattle.std.specs.List.{list_all}
use Rattle.std.proofs.lemmas.Bool.{and_from}
use Rattle.std.proofs.lemmas.Bool.Decides.{nat_tests}
use Rattle.plain_tree.specs.Names.{Path, is_name}
use Rattle.plain_tree.specs.FirstByte.{byte_behind, first_written}
use Rattle.plain_tree.specs.Reading.{written, before, read_name, read_names, read_path, parts_of}

before-some : {A : Type 0} (value : A) (others : Option (List A)) → before (Some value) others ≡ option_map (λ rest. value ∷ rest) others
before-some value None = refl
before-some value (Some others) = refl

-- a byte that is no backslash writes itself
pub written-plain : (byte : ℕ) (text : List ℕ) → (byte == 92) ≡ false → written (byte ∷ text) ≡ before (Some byte) (written text)
written-plain byte [] e = rw e refl
written-plain byte (x ∷ []) e = rw e refl
written-plain byte (x ∷ high ∷ []) e = rw e refl
written-plain byte (x ∷ high ∷ low ∷ text) e = rw e refl

-- a backslash writes a byte with the three behind it
written-escape : (byte : ℕ) (text : List ℕ) → (byte == 92) ≡ true → written (byte ∷ text) ≡ before (byte_behind text) (written (drop 3 text))
unfolding byte_behind
written-escape byte [] e = rw e refl
written-escape byte (x ∷ []) e = rw e refl
written-escape byte (x ∷ high ∷ []) e = rw e refl
written-escape byte (x ∷ high ∷ low ∷ text) e = rw e refl

-- the first byte, and then what the rest writes
pub written-step : (text : List ℕ) (byte size : ℕ) → first_written text ≡ Some (byte, suc size) → written text ≡ option_map (λ rest. byte ∷ rest) (written (drop (suc size) text))
unfolding first_written
written-step [] byte size e = cc
written-step (x ∷ text) byte size e = by (x == 92) refl (byte_behind text) refl e
  where
    by : (b : Bool) → (x == 92) ≡ b → (value : Option ℕ) → byte_behind text ≡ value → cond b (option_map {U = ℕ × ℕ} (λ value. (value, 4)) value) (Some (x, 1)) ≡ Some (byte, suc size) → written (x ∷ text) ≡ option_map (λ rest. byte ∷ rest) (written (drop (suc size) (x ∷ text)))
    by true e None behind h = cc
    by true e (Some value) behind h =
        let pair : ◌≡◌ {A = ℕ × ℕ} (value, 4) (byte, suc size) = cc in
        let same : value ≡ byte = ap (λ p. p.0) pair in
        let long : 3 ≡ size = omega (arith, ap (λ p. p.1) pair) in
        written-escape x text e ∙ ap (λ first. before first (written (drop 3 text))) behind
        ∙ before-some value (written (drop 3 text))
        ∙ ap (λ v. option_map (λ rest. v ∷ rest) (written (drop 3 text))) same
        ∙ ap (λ n. option_map (λ rest. byte ∷ rest) (written (drop n text))) long
    by false e value behind h =
        let pair : ◌≡◌ {A = ℕ × ℕ} (x, 1) (byte, suc size) = cc in
        let same : x ≡ byte = ap (λ p. p.0) pair in
        let long : 0 ≡ size = omega (arith, ap (λ p. p.1) pair) in
        written-plain x text e ∙ before-some x (written text)
        ∙ ap (λ v. option_map (λ rest. v ∷ rest) (written text)) same
        ∙ ap (λ n. option_map (λ rest. byte ∷ rest) (written (drop n text))) long

pub written-none : (text : List ℕ) → 0 < length text → first_written text ≡ None → written text ≡ None
unfolding first_written
written-none [] l e = absurd (omega arith)
written-none (x ∷ text) l e = by (x == 92) refl (byte_behind text) refl e
  where
    by : (b : Bool) → (x == 92) ≡ b → (value : Option ℕ) → byte_behind text ≡ value → cond b (option_map {U = ℕ × ℕ} (λ value. (value, 4)) value) (Some (x, 1)) ≡ None → written (x ∷ text) ≡ None
    by true e None behind h = written-escape x text e ∙ ap (λ first. before first (written (drop 3 text))) behind
    by true e (Some value) behind h = cc
    by false e value behind h = cc

after : (bytes : List ℕ) (byte : ℕ) (rest : Option (List ℕ)) → option_map (λ more. bytes ++ more) (option_map (λ more. byte ∷ more) rest) ≡ option_map (λ more. (bytes ++ byte ∷ []) ++ more) rest
after bytes byte None = refl
after bytes byte (Some rest) = ap Some (sym (append_assoc bytes (byte ∷ []) rest))

-- one more byte is read
pub written-more : (text bytes : List ℕ) (at byte size : ℕ) → written text ≡ option_map (λ rest. bytes ++ rest) (written (drop at text)) → first_written (drop at text) ≡ Some (byte, size) → 0 < size → written text ≡ option_map (λ rest. (bytes ++ byte ∷ []) ++ rest) (written (drop (at + size) text))
written-more text bytes at byte zero h e l = absurd (omega arith)
written-more text bytes at byte (suc size) h e l =
    h ∙ ap (option_map (λ rest. bytes ++ rest)) (written-step (drop at text) byte size e)
    ∙ after bytes byte (written (drop (suc size) (drop at text)))
    ∙ ap (λ rest. option_map (λ more. (bytes ++ byte ∷ []) ++ more) (written rest)) (drop-drop (suc size) at text)

before-none : {A : Type 0} (value : Option A) → before value None ≡ None
before-none None = refl
before-none (Some value) = refl

-- a part that writes no name makes all parts no path
pub read_names-none : (parts : List (List ℕ)) (n : ℕ) (d : List ℕ) → n < length parts → read_name (get_or parts n d) ≡ None → read_names parts ≡ None
read_names-none [] n d l e = absurd (omega arith)
read_names-none (part ∷ parts) zero d l e = ap (λ name. before name (read_names parts)) e
read_names-none (part ∷ parts) (suc n) d l e =
    ap (before (read_name part)) (read_names-none parts n d (omega arith) e) ∙ before-none (read_name part)

before-push : (first : Option (List ℕ)) (names : Option Path) (name : List ℕ) → before first (option_map (λ n. n ++ name ∷ []) names) ≡ option_map (λ n. n ++ name ∷ []) (before first names)
before-push None names name = refl
before-push (Some first) None name = refl
before-push (Some first) (Some names) name = refl

-- one more part is read
pub read_names-push : (parts : List (List ℕ)) (part name : List ℕ) → read_name part ≡ Some name → read_names (parts ++ part ∷ []) ≡ option_map (λ names. names ++ name ∷ []) (read_names parts)
read_names-push [] part name e = ap (λ value. before value (Some [])) e
read_names-push (first ∷ parts) part name e =
    ap (before (read_name first)) (read_names-push parts part name e) ∙ before-push (read_name first) (read_names parts) name

pub read_path-many : (text : List ℕ) → (length text == 0) ≡ false → 64 < length (parts_of text) → read_path text ≡ None
unfolding read_path
read_path-many text e l =
    let many : nat_lt 64 (length (parts_of text)) ≡ true = grind (arith, nat_tests) in rw (e, many) refl

pub read_path-few : (text : List ℕ) → (length text == 0) ≡ false → length (parts_of text) ≤ 64 → read_path text ≡ read_names (parts_of text)
unfolding read_path
read_path-few text e l =
    let few : nat_lt 64 (length (parts_of text)) ≡ false = grind (arith, nat_tests) in rw (e, few) refl

-- what is read is a name
read_name-named : (part name : List ℕ) → read_name part ≡ Some name → is_name name ≡ true
unfolding read_name
read_name-named part name = by (written part)
  where
    tested : (bytes : List ℕ) (b : Bool) → is_name bytes ≡ b → cond b (Some bytes) None ≡ Some name → is_name name ≡ true
    tested bytes true e h = cc
    tested bytes false e h = cc

    by : (bytes : Option (List ℕ)) → option_and_then (λ bytes. cond (is_name bytes) (Some bytes) None) bytes ≡ Some name → is_name name ≡ true
    by None h = cc
    by (Some bytes) h = tested bytes (is_name bytes) refl h

before-named : (first : Option (List ℕ)) (others : Option Path) (names : Path) → ((name : List ℕ) → first ≡ Some name → is_name name ≡ true) → ((rest : Path) → others ≡ Some rest → list_all is_name rest ≡ true) → before first others ≡ Some names → list_all is_name names ≡ true
before-named None others names f g e = cc
before-named (Some name) None names f g e = cc
before-named (Some name) (Some rest) names f g e =
    let same : name ∷ rest ≡ names = cc in
    ap (list_all is_name) (sym same) ∙ and_from _ _ (f name refl) (g rest refl)

pub read_names-named : (parts : List (List ℕ)) (names : Path) → read_names parts ≡ Some names → list_all is_name names ≡ true
read_names-named [] names e = let same : [] ≡ names = cc in ap (list_all is_name) (sym same)
read_names-named (part ∷ parts) names e =
    before-named (read_name part) (read_names parts) names (read_name-named part) (read_names-named parts) e

pub read_path-named : (text : List ℕ) (names : Path) → read_path text ≡ Some names → list_all is_name names ≡ true
unfolding read_path
read_path-named text names = by (length text == 0) (nat_lt 64 (length (parts_of text)))
  where
    by : (empty many : Bool) → cond empty (Some []) (cond many None (read_names (parts_of text))) ≡ Some names → list_all is_name names ≡ true
    by true many e = let same : [] ≡ names = cc in ap (list_all is_name) (sym same)
    by false true e = cc
    by false false e = read_names-named (parts_of text) names e
