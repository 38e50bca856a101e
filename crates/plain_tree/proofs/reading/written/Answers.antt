use Rattle.std.proofs.Common.{◌≡◌, List, [], ℕ, Option, Some, None, ◌<◌, ◌++◌, drop, length, arith, ◌∙◌, refl, sym, ap}
use Rattle.std.specs.Option.{option_map}
use Rattle.std.proofs.lemmas.List.{length-drop, take_rest}
use Rattle.plain_tree.specs.FirstByte.{first_written}
use Rattle.plain_tree.specs.Reading.{written}
use Rattle.plain_tree.proofs.Writing.{written-more, written-none}
use Rattle.plain_tree.proofs.reading.written.Goals as goal

before_all : (bytes : List ℕ) (all : Option (List ℕ)) → bytes ≡ [] → all ≡ option_map (λ rest. bytes ++ rest) all
before_all bytes None none = refl
before_all bytes (Some rest) none = ap (λ (b : List ℕ). Some (b ++ rest)) (sym none)

pub loop-at-init : goal.loop-at-init
loop-at-init c = before_all c.new-bytes.result.items (written c.args.text.now) c.new-bytes.ensures.items

pub loop-at-smaller : goal.loop-at-smaller
loop-at-smaller c = omega (arith, c.in-Some.ensures.within)

pub loop-at-preserved : goal.loop-at-preserved
loop-at-preserved c =
    let first : first_written (drop c.loop-at.at c.args.text.now) ≡ Some (c.in-Some.byte, c.in-Some.size) =
    ap first_written (sym (take_rest c.args.text.now c.loop-at.at)) ∙ sym c.in-Some.ensures.value in
    rw c.in_ok-push-in-Some.ensures.items
    (written-more c.args.text.now c.loop-at.bytes.items c.loop-at.at c.in-Some.byte c.in-Some.size c.loop-at.invariant first
    (omega (arith, c.in-Some.ensures.within)))

pub returns-in-None : goal.returns-in-None
returns-in-None c =
    let first : first_written (drop c.loop-at.at c.args.text.now) ≡ None =
    ap first_written (sym (take_rest c.args.text.now c.loop-at.at)) ∙ sym c.in-None.ensures.value in
    let more : 0 < length (drop c.loop-at.at c.args.text.now) = simp length-drop (omega arith) in
    sym (c.loop-at.invariant
    ∙ ap (option_map (λ rest. c.loop-at.bytes.items ++ rest)) (written-none (drop c.loop-at.at c.args.text.now) more first))
