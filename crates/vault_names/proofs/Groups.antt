-- Base32 of four groups, and its characters.
use Rattle.std.proofs.Common.{◌≡◌, ℕ, zero, suc, ◌*◌, ◌/◌, ◌%◌, ◌<◌, true, List, [], ◌∷◌, ◌++◌, length, length-append, map, take, drop, get_or, flat_map, refl, sym, ap, ◌∙◌, arith, lit<, append-nil, append_assoc}
use Rattle.std.specs.Simd.{first_chunks}
use Rattle.std.specs.Str.{IsAscii, IsUtf8}
use Rattle.std.specs.List.{list_all}
use Rattle.std.proofs.lemmas.Bool.{and_from, and_parts}
use Rattle.std.proofs.lemmas.List.Folds.{list_all-append}
use Rattle.std.proofs.lemmas.Bool.Decides.{nat_tests}
use Rattle.std.proofs.lemmas.Str.{IsUtf8-from_ascii}
use Rattle.vault_names.proofs.Blocks.{length-first_chunks}
use Rattle.vault_names.specs.Base32.{base32, group_text, is_base32, number_of, symbol}

joined : (a b c d : List ℕ) → a ++ b ++ c ++ d ≡ a ++ (b ++ (c ++ (d ++ [])))
joined a b c d = simp (append_assoc, append-nil) refl

pub base32-groups : (hash : List ℕ) (groups : List (List ℕ)) → length hash ≡ 20 → groups ≡ first_chunks 5 (length hash / 5) hash
    → group_text (get_or groups 0 []) ++ group_text (get_or groups 1 []) ++ group_text (get_or groups 2 []) ++ group_text (get_or groups 3 []) ≡ base32 hash
unfolding base32
base32-groups hash groups size is =
    let four : length hash / 5 ≡ 4 = omega (arith, size) in
    let all : groups ≡ first_chunks 5 4 hash = is ∙ ap (λ k. first_chunks 5 k hash) four in
    rw all (joined (group_text (take 5 hash)) (group_text (take 5 (drop 5 hash))) (group_text (take 5 (drop 5 (drop 5 hash)))) (group_text (take 5 (drop 5 (drop 5 (drop 5 hash))))) ∙ ap (λ k. flat_map group_text (first_chunks 5 k hash)) (sym four))

-- the text of some groups is of eight symbols for each
is_base32-symbol : (d : ℕ) → d < 32 → is_base32 (symbol d) ≡ true
is_base32-symbol d small = grind (arith, nat_tests)

base32-symbols : (ds : List ℕ) → list_all is_base32 (map (λ d. symbol (d % 32)) ds) ≡ true
base32-symbols [] = refl
base32-symbols (d ∷ ds) = and_from _ _ (is_base32-symbol (d % 32) (omega arith)) (base32-symbols ds)

base32-group : (bytes : List ℕ) → list_all is_base32 (group_text bytes) ≡ true
unfolding group_text
base32-group bytes =
    let n : ℕ = number_of bytes in
    base32-symbols (n / 34359738368 ∷ n / 1073741824 ∷ n / 33554432 ∷ n / 1048576 ∷ n / 32768 ∷ n / 1024 ∷ n / 32 ∷ n ∷ [])

base32-flat : (groups : List (List ℕ)) → list_all is_base32 (flat_map group_text groups) ≡ true
base32-flat [] = refl
base32-flat (group ∷ groups) =
    list_all-append is_base32 (group_text group) (flat_map group_text groups)
    ∙ and_from _ _ (base32-group group) (base32-flat groups)

pub characters-base32 : (bytes : List ℕ) → list_all is_base32 (base32 bytes) ≡ true
unfolding base32
characters-base32 bytes = base32-flat (first_chunks 5 (length bytes / 5) bytes)

length-group : (bytes : List ℕ) → length (group_text bytes) ≡ 8
unfolding group_text
length-group bytes = refl

length-flat : (groups : List (List ℕ)) → length (flat_map group_text groups) ≡ 8 * length groups
length-flat [] = refl
length-flat (group ∷ groups) =
    length-append (group_text group) (flat_map group_text groups) ∙ omega (arith, length-group group, length-flat groups)

pub length-base32 : (bytes : List ℕ) → length (base32 bytes) ≡ 8 * (length bytes / 5)
unfolding base32
length-base32 bytes =
    length-flat (first_chunks 5 (length bytes / 5) bytes) ∙ ap (λ n. 8 * n) (length-first_chunks 5 (length bytes / 5) bytes)

ascii-base32 : (text : List ℕ) → list_all is_base32 text ≡ true → IsAscii text
ascii-base32 [] are k = lit< tt
ascii-base32 (c ∷ text) are zero = let is : is_base32 c ≡ true = (and_parts _ _ are).0 in grind (arith, nat_tests)
ascii-base32 (c ∷ text) are (suc k) = ascii-base32 text (and_parts (is_base32 c) (list_all is_base32 text) are).1 k

pub utf8-base32 : (bytes : List ℕ) → IsUtf8 (base32 bytes)
utf8-base32 bytes = IsUtf8-from_ascii _ (ascii-base32 (base32 bytes) (characters-base32 bytes))
