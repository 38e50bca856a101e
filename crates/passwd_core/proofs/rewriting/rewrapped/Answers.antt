use Rattle.std.proofs.Common.{Ok, Err, ap, subst, sym}
use Rattle.passwd_core.specs.declared.reading.KeyFile.TheVariants.{Cryptomator}
use Rattle.passwd_core.specs.Steps.{DrawsText}
use Rattle.passwd_core.proofs.Drawn.{at_random, cm_no_memory, cm_none, cm_text, cm_wrong}
use Rattle.passwd_core.proofs.rewriting.rewrapped.Goals as goal

pub returns-in_err-salt-clause-text : goal.returns-in_err-salt-clause-text
returns-in_err-salt-clause-text g c =
    let s = g.R.Randoms.left c.args.random.now in
    let s1 = g.R.Randoms.left c.draw.new.random in
    at_random (DrawsText (Cryptomator c.args.file.now) c.args.pass.now c.args.new_pass.now s s1) c.from_residual.result c.from_residual.ensures.1 c.in_err-salt.ensures.fault
    (cm_none c.args.file.now c.args.pass.now c.args.new_pass.now s s1 c.in_err-salt.ensures.nothing)

pub returns-in-Ok-clause-text : goal.returns-in-Ok-clause-text
returns-in-Ok-clause-text g c =
    let s = g.R.Randoms.left c.args.random.now in
    let s1 = g.R.Randoms.left c.draw.new.random in
    subst (λ text. DrawsText (Cryptomator c.args.file.now) c.args.pass.now c.args.new_pass.now s s1 (Ok text)) (sym c.new.ensures)
    (cm_text c.args.file.now c.args.pass.now c.args.new_pass.now s s1 c.in_ok-salt.salt c.in_ok-salt.ensures.bytes c.in_ok-salt.ensures.drawn
    c.rewrapped_texts_give_back_their_keys.ensures c.cost_is_one.ensures c.in-Ok.text.items c.in-Ok.ensures.text)

pub returns-in-Err-WrongPass-clause-text : goal.returns-in-Err-WrongPass-clause-text
returns-in-Err-WrongPass-clause-text g c =
    cm_wrong c.args.file.now c.args.pass.now c.args.new_pass.now (g.R.Randoms.left c.args.random.now) (g.R.Randoms.left c.draw.new.random) c.in_ok-salt.salt c.in_ok-salt.ensures.bytes c.in_ok-salt.ensures.drawn
    (c.in-Err-WrongPass.ensures.wrong_pass (ap Err c.in-Err-WrongPass.field-0-is))

pub returns-in-Err-NoMemory-clause-text : goal.returns-in-Err-NoMemory-clause-text
returns-in-Err-NoMemory-clause-text g c =
    cm_no_memory c.args.file.now c.args.pass.now c.args.new_pass.now (g.R.Randoms.left c.args.random.now) (g.R.Randoms.left c.draw.new.random) c.in_ok-salt.salt c.in_ok-salt.ensures.bytes c.in_ok-salt.ensures.drawn
