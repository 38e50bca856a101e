use Rattle.std.proofs.Common.{sym, ap, ◌∙◌}
use Rattle.cryptomator_conf.specs.Jwt.{trimmed}
use Rattle.cryptomator_conf.proofs.Trimmed.{trimmed-blank, trimmed-kept, trimmed-none}
use Rattle.cryptomator_conf.proofs.jwt.trimmed.Goals as goal

pub loop-last-preserved : goal.loop-last-preserved
loop-last-preserved c =
    sym (trimmed-blank c.in-Some.front.now c.in-Some.last.now (sym c.if-not-is_blank.ensures))
    ∙ ap trimmed (sym c.in-Some.ensures.cases.0) ∙ c.loop-last.invariant

pub returns-then-not-is_blank : goal.returns-then-not-is_blank
returns-then-not-is_blank c =
    let parts = c.in-Some.ensures.cases.0 in
    parts ∙ sym (trimmed-kept c.in-Some.front.now c.in-Some.last.now (sym c.if-not-is_blank.ensures)) ∙ ap trimmed (sym parts) ∙ c.loop-last.invariant

pub returns-in_default : goal.returns-in_default
returns-in_default c = trimmed-none c.loop-last.rest.now c.in_default.ensures.cases ∙ c.loop-last.invariant
