use Rattle.std.proofs.Common.{arith, length, slice_index}
use Rattle.std.proofs.lemmas.List.Edits.{fill_by_more}
use Rattle.std.proofs.lemmas.List.FromFn.{fill_by_all}
use Rattle.kdf_suite.specs.Diagonals.{place, spread}
use Rattle.kdf_suite.proofs.ro_mix.spread.Goals as goal

pub words-preserved : goal.words-preserved
words-preserved c = fill_by_more (λ k. slice_index c.args.words.now (place c.args.step k)) c.words.out c.words.i 0 (omega arith) c.words.invariant

pub returns : goal.returns
unfolding spread
returns c = fill_by_all (λ k. slice_index c.args.words.now (place c.args.step k)) c.words.out (length c.args.words.now) 0 (omega arith) (λ k below. c.words.invariant k (omega arith))
