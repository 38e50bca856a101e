use Rattle.std.proofs.Common.{◌≡◌, ◌∙◌, ap, arith, length, rules}
use Rattle.kdf_suite.specs.Pbkdf2.{pbkdf2_block}
use Rattle.kdf_suite.proofs.Rounds.{pbkdf2_block-more, pbkdf2_block-one, pbkdf2_u-more}
use Rattle.kdf_suite.proofs.pbkdf2.derived_block.Goals as goal

pub rounds-init : goal.rounds-init
rounds-init c =
    let long : length c.first_round-last.result ≡ 32 = search rules in
    (c.first_round-last.ensures, pbkdf2_block-one _ _ _ _ long c.first_round-last.ensures)

pub rounds-preserved : goal.rounds-preserved
rounds-preserved c =
    let last = pbkdf2_u-more c.args.pass.now c.args.salt.now c.args.number c.rounds._round _ _ c.rounds.invariant.0 c.hmac256-next.ensures in
    (last, pbkdf2_block-more c.args.pass.now c.args.salt.now c.args.number c.rounds._round _ _ _ c.rounds.invariant.1 last c.xor_into.ensures)

pub returns : goal.returns
returns c =
    let all : c.rounds._round ≡ c.args.rounds = omega arith in
    c.rounds.invariant.1 ∙ ap (λ n. pbkdf2_block c.args.pass.now c.args.salt.now n c.args.number) all
