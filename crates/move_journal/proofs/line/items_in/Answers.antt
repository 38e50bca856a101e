use Rattle.std.proofs.Common.{◌≡◌, Ok, sym, ap, ◌∙◌, arith, decimal}
use Rattle.move_journal.proofs.Values.{not_utf8_items, items_parsed, texts_differ}
use Rattle.move_journal.proofs.line.items_in.Goals as goal

pub returns-in_default : goal.returns-in_default
returns-in_default c = not_utf8_items c.args.value.now c.in_default.ensures.cases.0

pub returns-in_default-parse : goal.returns-in_default-parse
returns-in_default-parse c items small e =
    let ok : c.parse.result ≡ Ok items = items_parsed c.in-Ok.text.now c.args.value.now c.parse.result c.parse.ensures.value.0 c.in-Ok.ensures.cases.0 items small e in cc

pub returns-then-items-gt200000 : goal.returns-then-items-gt200000
returns-then-items-gt200000 c items small e =
    let ok : c.parse.result ≡ Ok items = items_parsed c.in-Ok.text.now c.args.value.now c.parse.result c.parse.ensures.value.0 c.in-Ok.ensures.cases.0 items small e in
    let same : c.in-Ok-parse.items ≡ items = cc in
    omega arith

pub returns : goal.returns
returns c items small e =
    let ok : c.parse.result ≡ Ok items = items_parsed c.in-Ok.text.now c.args.value.now c.parse.result c.parse.ensures.value.0 c.in-Ok.ensures.cases.0 items small e in
    let same : c.in-Ok-parse.items ≡ items = cc in
    let shown : c.as_str.result.now ≡ decimal c.in-Ok-parse.items = c.as_str.ensures.value ∙ c.in_ok-shortest.ensures.ok in
    texts_differ c.as_str.result.now c.in-Ok.text.now c.eq.result c.eq.ensures c.if-eq.false (shown ∙ ap decimal same ∙ sym e ∙ sym c.in-Ok.ensures.cases.0)
