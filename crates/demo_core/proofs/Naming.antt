-- The names of the demonstration's items are names.
use Rattle.std.proofs.Common.{◌≡◌, ◌≢◌, ◌∙◌, ◌+◌, ◌-◌, ◌<◌, ◌≤◌, ◌/◌, ◌%◌, ℕ, zero, suc, Bool, true, false, cond, List, [], ◌∷◌, ◌++◌, ◌&&◌, length, codes, replicate, nat_lt, nat_le, nat_eq, IsTrue, refl, sym, ap, subst, arith, append-nil}
use Rattle.std.specs.List.{list_all}
use Rattle.std.proofs.lemmas.List.{length-append}
use Rattle.std.proofs.lemmas.List.Folds.{list_all-append}
use Rattle.std.proofs.lemmas.Bool.Decides.{nat_tests}
use Rattle.std.proofs.lemmas.Grind.{common_steps}
use Rattle.plain_tree.specs.Names.{is_name, is_name_byte, is_dots}
use Rattle.demo_core.specs.Demonstration.{digits, directory_name, directory_path, file_name}

pub digits_none : (count n : ℕ) → count ≡ 0 → [] ≡ digits count n
digits_none zero n e = refl
digits_none (suc count) n e = absurd (omega (arith, e))

pub digits_more : (count n : ℕ) → count ≢ 0 → digits (count - 1) (n / 10) ++ (48 + n % 10) ∷ [] ≡ digits count n
digits_more zero n e = absurd (e refl)
digits_more (suc count) n e = let one : suc count - 1 ≡ count = omega arith in rw one refl

pub length-digits : (count n : ℕ) → length (digits count n) ≡ count
length-digits zero n = refl
length-digits (suc count) n = length-append (digits count (n / 10)) ((48 + n % 10) ∷ []) ∙ (let e : length (digits count (n / 10)) ≡ count = length-digits count (n / 10) in rw e (omega arith))

digit_is : (d : ℕ) → d < 10 → is_name_byte (48 + d) ≡ true
digit_is d e = grind (arith, common_steps)

rest_of_ten : (n : ℕ) → n % 10 < 10
rest_of_ten n = omega arith

pub characters-digits : (count n : ℕ) → list_all is_name_byte (digits count n) ≡ true
characters-digits zero n = refl
characters-digits (suc count) n =
    let front : list_all is_name_byte (digits count (n / 10)) ≡ true = characters-digits count (n / 10) in
    let last : is_name_byte (48 + n % 10) ≡ true = digit_is (n % 10) (rest_of_ten n) in
    list_all-append is_name_byte (digits count (n / 10)) ((48 + n % 10) ∷ []) ∙ rw front (rw last refl)

-- a name of few bytes that are plain, of which the first isn't a dot
plain_name : (name : List ℕ) → 0 < length name → length name ≤ 255 → list_all is_name_byte name ≡ true → is_dots name ≡ false → IsTrue (is_name name)
unfolding is_name
plain_name name some few characters dots =
    let one : nat_lt 0 (length name) ≡ true = grind (arith, nat_tests) in
    let two : nat_le (length name) 255 ≡ true = grind (arith, nat_tests) in
    rw one (rw two (rw characters (rw dots refl)))

pub is_name-directory : (count : ℕ) → IsTrue (is_name (directory_name count))
is_name-directory count =
    let size : length (directory_name count) ≡ 7 = length-append (codes "dir") (digits 4 count) ∙ ap (λ n. 3 + n) (length-digits 4 count) in
    plain_name (directory_name count) (omega (arith, size)) (omega (arith, size))
    (list_all-append is_name_byte (codes "dir") (digits 4 count) ∙ ap (λ b. true && b) (characters-digits 4 count)) refl

file_name_by : (number : ℕ) (end : List ℕ) → length end ≤ 180 → list_all is_name_byte end ≡ true → IsTrue (is_name (codes "file" ++ digits 6 number ++ end))
file_name_by number end few characters =
    let front : List ℕ = codes "file" ++ digits 6 number in
    let begun : length front ≡ 10 = length-append (codes "file") (digits 6 number) ∙ ap (λ n. 4 + n) (length-digits 6 number) in
    let size : length (front ++ end) ≡ 10 + length end = length-append front end ∙ ap (λ n. n + length end) begun in
    let all : list_all is_name_byte front ≡ true = list_all-append is_name_byte (codes "file") (digits 6 number) ∙ ap (λ b. true && b) (characters-digits 6 number) in
    plain_name (front ++ end) (omega (arith, size)) (omega (arith, size, few))
    (list_all-append is_name_byte front end ∙ ap (λ b. b && list_all is_name_byte end) all ∙ characters) refl

pub is_name-short : (number : ℕ) → IsTrue (is_name (codes "file" ++ digits 6 number))
is_name-short number = subst (λ name. IsTrue (is_name name)) (append-nil (codes "file" ++ digits 6 number)) (file_name_by number [] (omega arith) refl)

pub is_name-long : (number : ℕ) → IsTrue (is_name (codes "file" ++ digits 6 number ++ replicate 180 120))
is_name-long number = file_name_by number (replicate 180 120) (omega arith) refl

pub is_name-file : (number : ℕ) → IsTrue (is_name (file_name number))
is_name-file number = by (nat_eq (number % 25) 7)
  where
    by : (b : Bool) → IsTrue (is_name (codes "file" ++ digits 6 number ++ cond b (replicate 180 120) []))
    by true = is_name-long number
    by false = subst (λ end. IsTrue (is_name (codes "file" ++ end))) (sym (append-nil (digits 6 number))) (is_name-short number)

pub directory_path_at_root : (count : ℕ) → count % 4 ≡ 0 → [] ++ directory_name count ∷ [] ≡ directory_path count
directory_path_at_root zero e = refl
directory_path_at_root (suc count) e = let fourth : nat_eq (suc count % 4) 0 ≡ true = grind (arith, nat_tests) in rw fourth refl

pub directory_path_below : (count : ℕ) → count % 4 ≢ 0 → directory_path (count - 1) ++ directory_name count ∷ [] ≡ directory_path count
directory_path_below zero e = absurd (e refl)
directory_path_below (suc count) e =
    let fourth : nat_eq (suc count % 4) 0 ≡ false = grind (arith, nat_tests) in
    let before : suc count - 1 ≡ count = omega arith in
    rw before (rw fourth refl)
