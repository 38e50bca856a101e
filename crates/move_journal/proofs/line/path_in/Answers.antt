use Rattle.move_journal.proofs.Values.{parsed, not_utf8_path, not_parsed}
use Rattle.move_journal.proofs.line.path_in.Goals as goal

pub returns-in_default : goal.returns-in_default
returns-in_default c = not_utf8_path c.args.value.now c.in_default.ensures.cases.0

pub returns-in-Ok-parse : goal.returns-in-Ok-parse
returns-in-Ok-parse c =
    parsed c.args.value.now c.in-Ok.text.now c.in-Ok-parse.path c.in-Ok.ensures.cases.0 c.in-Ok.ensures.cases.1 c.in-Ok-parse.ensures.ok.0
    c.in-Ok-parse.ensures.ok.1

pub returns-in-Err-BadPath : goal.returns-in-Err-BadPath
returns-in-Err-BadPath c =
    not_parsed c.args.value.now c.in-Ok.text.now c.in-Ok.ensures.cases.0 (c.in-Err-BadPath.ensures.bad (cc))
