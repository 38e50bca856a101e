use Rattle.std.proofs.Common.{◌≡◌, ◌++◌, ◌∷◌, [], Some, map, lit<, sym, ap, ◌∙◌}
use Rattle.std.proofs.lemmas.List.{map-append}
use Rattle.std.specs.Option.{option_map}
use Rattle.std.proofs.lemmas.Iterator.Consumers.{YieldsList-end, YieldsList-turn, YieldsList-at}
use Rattle.std.proofs.lemmas.Iterator.Splits.{YieldsList-from_str_split}
use Rattle.plain_tree.specs.Reading.{read_name, read_names, parts_of}
use Rattle.plain_tree.proofs.Writing.{read_names-none, read_names-push}
use Rattle.plain_tree.proofs.reading.read_names.Goals as goal

pub loop-part-preserved : goal.loop-part-preserved
loop-part-preserved c =
    let name : read_name c.in-Some.part.now ≡ Some c.in-Some-2.name =
    ap read_name (sym c.as_bytes.ensures.value) ∙ sym c.in_ok-name.ensures ∙ c.in-Some-2.is in
    ap read_names (map-append (λ part. part.now) c.loop-part.yielded (c.in-Some.part ∷ []))
    ∙ read_names-push (map (λ part. part.now) c.loop-part.yielded) c.in-Some.part.now c.in-Some-2.name name
    ∙ ap (option_map (λ names. names ++ c.in-Some-2.name ∷ [])) c.loop-part.invariant
    ∙ ap Some (sym c.in_ok-push-in-Some-2.ensures.items)

pub returns-in-None-2 : goal.returns-in-None-2
returns-in-None-2 c =
    let turn =
    YieldsList-turn
    (YieldsList-at c.into_iter-part-iterator.ensures.into_iter_gives
    (YieldsList-from_str_split 47 c.args.text.now (lit< tt) c.split-part-items.ensures.text c.split-part-items.ensures.has_more c.split-part-items.ensures.pattern))
    c.loop-part.yielded c.loop-part.part-iterator c.loop-part.yielded_by c.next.result c.next.new.self c.in-Some.part c.in-Some.is c.next.ensures.steps in
    sym (read_names-none (parts_of c.args.text.now) _ c.in-Some.part.now turn.0 (ap read_name (sym turn.1 ∙ sym c.as_bytes.ensures.value) ∙ sym c.in_ok-name.ensures ∙ c.in-None-2.is))

pub returns : goal.returns
returns c =
    let done =
    YieldsList-end
    (YieldsList-at c.into_iter-part-iterator.ensures.into_iter_gives
    (YieldsList-from_str_split 47 c.args.text.now (lit< tt) c.split-part-items.ensures.text c.split-part-items.ensures.has_more c.split-part-items.ensures.pattern))
    c.loop-part.yielded c.loop-part.part-iterator c.loop-part.yielded_by c.next.result c.next.new.self c.in-None.is c.next.ensures.steps in
    sym c.loop-part.invariant ∙ ap read_names done.0
