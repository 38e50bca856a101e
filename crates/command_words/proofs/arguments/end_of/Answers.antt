use Rattle.std.proofs.Common.{◌≡◌, ℕ, ◌+◌, ◌<◌, Bool, true, false, List, [], get_or, length, map, nat_lt, not, refl, sym, ap, ◌∙◌, subst, arith, string_bytes}
use Rattle.std.proofs.lemmas.Bool.{ltb-true, ltb-false}
use Rattle.std.proofs.lemmas.List.{get_or-map, length-map}
use Rattle.std.proofs.lemmas.List.Sums.{position_or_len_is}
use Rattle.command_words.specs.Words.{ends_options}
use Rattle.command_words.proofs.arguments.end_of.Goals as goal

-- the word at a place ends the options where its text does
ends_at : {X : Type 0} (f : X → List ℕ) (words : List X) (n : ℕ) (word : X) (b : Bool) → n < length words → word ≡ get_or words n word
    → ends_options (f word) ≡ b → ends_options (get_or (map f words) n []) ≡ b
ends_at f words n word b within at is = ap ends_options (get_or-map f words n word [] within ∙ ap f (sym at)) ∙ is

one_more : {X : Type 0} (f : X → List ℕ) (words : List X) (n : ℕ) (word : X) → n < length words → word ≡ get_or words n word → ends_options (f word) ≡ false
    → ((k : ℕ) → k < n → ends_options (get_or (map f words) k []) ≡ false) → (k : ℕ) → k < n + 1 → ends_options (get_or (map f words) k []) ≡ false
one_more f words n word within at is before k below = by_test (nat_lt k n) refl
  where
    by_test : (b : Bool) → nat_lt k n ≡ b → ends_options (get_or (map f words) k []) ≡ false
    by_test true t = before k (ltb-true k n t)
    by_test false t =
        let same : n ≡ k = omega (arith, ltb-false k n t, below) in
        subst (λ i. ends_options (get_or (map f words) i []) ≡ false) same (ends_at f words n word false within at is)

differs : (r b : Bool) → r ≡ not b → r ≡ true → b ≡ false
differs true false e t = refl
differs true true e t = cc
differs false b e t = cc

is_it : (r b : Bool) → r ≡ not b → r ≡ false → b ≡ true
is_it false true e t = refl
is_it false false e t = cc
is_it true b e t = cc

pub loop-end-preserved : goal.loop-end-preserved
loop-end-preserved c =
    let word : ends_options c.as_str.result.now ≡ false = differs c.ne.result (ends_options c.as_str.result.now) c.ne.ensures c.if-ne.true in
    record {
      within = omega (arith, c.loop-end-test.true);
      before = one_more (λ s. string_bytes s) c.args.words.now c.loop-end.end c.index-words-end.result c.loop-end-test.true c.index-words-end.is
          (ap ends_options (sym c.as_str.ensures.value) ∙ word) c.loop-end.invariant.before;
    }

pub returns-else-ne : goal.returns-else-ne
returns-else-ne c =
    let word : ends_options c.as_str.result.now ≡ true = is_it c.ne.result (ends_options c.as_str.result.now) c.ne.ensures c.if-ne.false in
    sym (position_or_len_is ends_options (map (λ s. string_bytes s) c.args.words.now) c.loop-end.end []
    (omega (arith, length-map c.args.words.now (λ s. string_bytes s), c.loop-end.invariant.within)) c.loop-end.invariant.before
    (λ within. ends_at (λ s. string_bytes s) c.args.words.now c.loop-end.end c.index-words-end.result true c.loop-end-test.true c.index-words-end.is
    (ap ends_options (sym c.as_str.ensures.value) ∙ word)))

pub returns-after-loop-end : goal.returns-after-loop-end
returns-after-loop-end c =
    let all : length (map (λ s. string_bytes s) c.args.words.now) ≡ length c.args.words.now = length-map c.args.words.now (λ s. string_bytes s) in
    sym (position_or_len_is ends_options (map (λ s. string_bytes s) c.args.words.now) c.loop-end.end []
    (omega (arith, all, c.loop-end.invariant.within)) c.loop-end.invariant.before
    (λ within. absurd (omega (arith, all, within, c.loop-end-test.false))))
