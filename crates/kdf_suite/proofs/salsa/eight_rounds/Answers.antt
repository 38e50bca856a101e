use Rattle.std.proofs.Common.{◌≡◌, ◌∙◌, add-one, ap, arith, refl}
use Rattle.kdf_suite.specs.Diagonals.{diagonals_of, words_of}
use Rattle.kdf_suite.specs.Salsa.{column_round, double_rounds}
use Rattle.kdf_suite.proofs.DiagonalRounds.{words}
use Rattle.kdf_suite.proofs.salsa.eight_rounds.Goals as goal

pub rounds-init : goal.rounds-init
unfolding double_rounds
rounds-init c = c.requires

pub rounds-preserved : goal.rounds-preserved
unfolding double_rounds
rounds-preserved c =
    let x = double_rounds c.rounds._round (words_of c.args.block) in
    rw add-one (c.row_round-next.ensures (column_round x) (c.column_round.ensures x c.rounds.invariant))

pub returns-clause-whole : goal.returns-clause-whole
returns-clause-whole c = rw c.rounds.invariant refl

pub returns-clause-rounds : goal.returns-clause-rounds
returns-clause-rounds c =
    let all : c.rounds._round ≡ 4 = omega arith in
    ap words_of (c.rounds.invariant ∙ ap (λ n. diagonals_of (double_rounds n (words_of c.args.block))) all) ∙ words (words_of c.args.block)
