-- Contents that are read to the end, and are the same.
use Rattle.std.proofs.Common.{◌≡◌, ℕ, ◌≤◌, ◌&&◌, nat_eq, nat_lt, Bool, true, false, List, length, take, if◌then◌else◌, refl, sym, ap, ◌∙◌, arith}
use Rattle.std.specs.List.{starts_with}
use Rattle.std.specs.Str.{bytes_eq}
use Rattle.std.specs.Cmp.Lexicographic.{bytes_decides}
use Rattle.std.proofs.lemmas.Bool.{false≢true, ltb-false}
use Rattle.std.proofs.lemmas.List.{take_all}
use Rattle.chunk_files.specs.Contents.{read_file, readable}
use Rattle.chunk_files.specs.FileOf.{WholeFilesEnd}
use Rattle.chunk_files.specs.Keys.{Keys}
use Rattle.chunk_files.specs.Reading.{Ending, Whole, Wanting, Faulty}
use Rattle.folder_spec.specs.Path.{Path}
use Rattle.tree_match.specs.Comparing.{Content, Is, Stops, compared, is_cut}

-- a file of which no more than a limit is read, and that is read to its end
pub read_whole : WholeFilesEnd → (limit : ℕ) (keys : Keys) (bytes : List ℕ) → (read_file keys (take limit bytes) (nat_lt limit (length bytes))).ending ≡ Whole
    → read_file keys (take limit bytes) (nat_lt limit (length bytes)) ≡ readable keys bytes
read_whole ends limit keys bytes whole =
    let here : nat_lt limit (length bytes) ≡ false = ends keys (take limit bytes) (nat_lt limit (length bytes)) whole in
    let few : length bytes ≤ limit = ltb-false limit (length bytes) here in
    ap (read_file keys (take limit bytes)) here ∙ ap (λ (xs : List ℕ). read_file keys xs false) (take_all limit bytes few)

-- ---- contents that are the same

pub record AreWhole (a b : Content) : Type 0 where
  pub one : a.ending ≡ Whole
  pub other : b.ending ≡ Whole
  pub same : a.bytes ≡ b.bytes

uncut : (ending : Ending) → is_cut ending ≡ false → ending ≡ Whole
uncut Whole h = refl
uncut Wanting h = cc h
uncut (Faulty fault) h = cc h

record Passed (one two same : Bool) : Type 0 where
  pub first : one ≡ false
  pub second : two ≡ false
  pub alike : same ≡ true

tests_passed : (one two same : Bool) (p q : Path) (e f : Ending) → (if one then Stops p e else if two then Stops q f else Is same) ≡ Is true → Passed one two same
tests_passed true two same p q e f h = cc h
tests_passed false true same p q e f h = cc h
tests_passed false false same p q e f h = record { first = refl; second = refl; alike = cc h }

begins_itself : (xs ys : List ℕ) → xs ≡ ys → starts_with nat_eq ys xs ≡ true
begins_itself xs ys is = (bytes_decides xs (take (length xs) ys)).1 (sym (ap (λ (zs : List ℕ). take (length xs) zs) (sym is) ∙ take_all (length xs) xs (omega arith)))

not_first : (a b : Bool) → (a && b) ≡ false → b ≡ true → a ≡ false
not_first true b h is = absurd (false≢true (sym h ∙ is))
not_first false b h is = refl

pub whole_and_same : (a b : Content) → compared a b ≡ Is true → AreWhole a b
unfolding compared
whole_and_same a b is =
    let tests = tests_passed (is_cut a.ending && starts_with nat_eq b.bytes a.bytes) (is_cut b.ending && starts_with nat_eq a.bytes b.bytes) (bytes_eq a.bytes b.bytes) a.at b.at a.ending b.ending is in
    let same : a.bytes ≡ b.bytes = (bytes_decides a.bytes b.bytes).0 tests.alike in
    record {
      one = uncut a.ending (not_first (is_cut a.ending) (starts_with nat_eq b.bytes a.bytes) tests.first (begins_itself a.bytes b.bytes same));
      other = uncut b.ending (not_first (is_cut b.ending) (starts_with nat_eq a.bytes b.bytes) tests.second (begins_itself b.bytes a.bytes (sym same)));
      same = same;
    }
