use Rattle.std.proofs.Common.{◌≡◌, ◌∙◌, ◌+◌, ℕ, suc, ap, refl, arith}
use Rattle.demo_core.specs.Demonstration.{totals_of, counting}
use Rattle.demo_core.proofs.items.totals_of.Goals as goal

totals_more : (seed count : ℕ) → counting seed count (totals_of seed count) ≡ totals_of seed (count + 1)
totals_more seed count = let one : count + 1 ≡ suc count = omega arith in rw one refl

pub loop-number-preserved : goal.loop-number-preserved
loop-number-preserved c = record {
  is = c.counting-totals.ensures.is ∙ ap (counting c.args.seed c.loop-number.number) c.loop-number.invariant.is ∙ totals_more c.args.seed c.loop-number.number;
  directories = c.counting-totals.ensures.directories;
  files = c.counting-totals.ensures.files;
  bytes = c.counting-totals.ensures.bytes;
}
