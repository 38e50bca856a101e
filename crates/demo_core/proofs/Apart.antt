-- No two items of the demonstration have one path, and a tree of some items gains the next.
use Rattle.std.proofs.Common.{◌≡◌, ◌∙◌, ◌+◌, ◌*◌, ◌/◌, ◌%◌, ◌<◌, ℕ, zero, suc, Bool, true, false, cond, nat_eq, List, [], ◌∷◌, ◌++◌, length, take, drop, refl, sym, ap, subst, arith, below_more}
use Rattle.std.proofs.lemmas.Bool.Decides.{nat_tests}
use Rattle.std.proofs.Math.Seq.{drop-append_seam}
use Rattle.folder_spec.specs.View.{View}
use Rattle.folder_spec.proofs.Paths.{child-injective, child-last}
use Rattle.plain_tree.specs.Names.{Path}
use Rattle.vault_spec.specs.Adding.{OpensWith}
use Rattle.vault_spec.specs.Format.{Format}
use Rattle.vault_spec.specs.Opens.{tree}
use Rattle.demo_core.specs.Demonstration.{digits, directory_name, directory_path, file_name, is_directory, path_of}
use Rattle.demo_core.specs.Tree.{HasItems, opens_as}
use Rattle.demo_core.proofs.Giving.{taken}
use Rattle.demo_core.proofs.Naming.{length-digits}

-- ---- digits tell their number

abbrev ten_to : ℕ → ℕ
ten_to zero = 1
ten_to (suc count) = 10 * ten_to count

left_over : (n : ℕ) (front back : List ℕ) → length front ≡ n → drop n (front ++ back) ≡ back
left_over n front back size = subst (λ k. drop k (front ++ back) ≡ back) size (drop-append_seam front back)

abbrev first_of : List ℕ → ℕ
first_of [] = 0
first_of (x ∷ xs) = x

digits_tell : (count n m : ℕ) → n < ten_to count → m < ten_to count → digits count n ≡ digits count m → n ≡ m
digits_tell zero n m few less e = omega (arith, few, less)
digits_tell (suc count) n m few less e =
    let fronts : digits count (n / 10) ≡ digits count (m / 10) =
    sym (taken count (digits count (n / 10)) ((48 + n % 10) ∷ []) (length-digits count (n / 10))) ∙ ap (take count) e
    ∙ taken count (digits count (m / 10)) ((48 + m % 10) ∷ []) (length-digits count (m / 10)) in
    let lasts : 48 + n % 10 ≡ 48 + m % 10 = ap first_of
    (sym (left_over count (digits count (n / 10)) ((48 + n % 10) ∷ []) (length-digits count (n / 10))) ∙ ap (drop count) e
    ∙ left_over count (digits count (m / 10)) ((48 + m % 10) ∷ []) (length-digits count (m / 10))) in
    let tens : n / 10 ≡ m / 10 = digits_tell count (n / 10) (m / 10) (omega (arith, few)) (omega (arith, less)) fronts in
    omega (arith, lasts, tens)

-- ---- paths tell their number

abbrev pub item_name : Bool → ℕ → List ℕ
item_name true number = directory_name (number / 10)
item_name false number = file_name number

names_tell : (p q : Bool) (i j : ℕ) → nat_eq (i % 10) 0 ≡ p → nat_eq (j % 10) 0 ≡ q → i < 10000 → j < 10000 → item_name p i ≡ item_name q j → i ≡ j
names_tell true true i j one other few less e =
    let tens : i / 10 ≡ j / 10 = digits_tell 4 (i / 10) (j / 10) (omega arith) (omega arith) (ap (drop 3) e) in
    let first : i % 10 ≡ 0 = grind (arith, nat_tests, one) in
    let second : j % 10 ≡ 0 = grind (arith, nat_tests, other) in
    omega (arith, tens, first, second)
names_tell true false i j one other few less e = absurd (omega (arith, ap first_of e))
names_tell false true i j one other few less e = absurd (omega (arith, ap first_of e))
names_tell false false i j one other few less e = digits_tell 6 i j (omega arith) (omega arith) (ap (λ name. take 6 (drop 4 name)) e)

abbrev pub above_of : ℕ → Path
above_of zero = []
above_of (suc count) = cond (nat_eq (suc count % 4) 0) [] (directory_path count)

directory_ends : (count : ℕ) → directory_path count ≡ above_of count ++ directory_name count ∷ []
directory_ends zero = refl
directory_ends (suc count) = refl

abbrev pub item_front : Bool → ℕ → Path
item_front true number = above_of (number / 10)
item_front false number = directory_path (number / 10)

path_ends_by : (p : Bool) (number : ℕ) → cond p (directory_path (number / 10)) (directory_path (number / 10) ++ file_name number ∷ []) ≡ item_front p number ++ item_name p number ∷ []
path_ends_by true number = directory_ends (number / 10)
path_ends_by false number = refl

pub path_ends : (number : ℕ) → path_of number ≡ item_front (is_directory number) number ++ item_name (is_directory number) number ∷ []
path_ends number = path_ends_by (is_directory number) number

pub paths_tell : (i j : ℕ) → i < 10000 → j < 10000 → path_of i ≡ path_of j → i ≡ j
paths_tell i j few less e =
    let both = sym (path_ends i) ∙ e ∙ path_ends j in
    let fronts = child-injective (item_front (is_directory i) i) (item_front (is_directory j) j) (item_name (is_directory i) i) (item_name (is_directory j) j) both in
    names_tell (is_directory i) (is_directory j) i j refl refl few less
    (child-last (item_front (is_directory j) j) (item_name (is_directory i) i) (item_name (is_directory j) j)
    (subst (λ front. front ++ item_name (is_directory i) i ∷ [] ≡ item_front (is_directory j) j ++ item_name (is_directory j) j ∷ []) fronts both))

-- ---- the next item

pub items_more : (seed count : ℕ) (f : Format) (v w : View) → count < 10000 → HasItems seed count (tree f v) → OpensWith f v w (path_of count) (opens_as seed count)
    → HasItems seed (count + 1) (tree f w)
items_more seed count f v w few has gains = record {
  each = below_more _ _
      (λ number less. gains.others (path_of number) (λ same. absurd (omega (arith, less, paths_tell number count (omega (arith, less, few)) few same))) ∙ has.each number less)
      gains.there;
  others = λ path some none. gains.others path (none count (omega arith)) ∙ has.others path some (λ number less. none number (omega (arith, less)));
}
