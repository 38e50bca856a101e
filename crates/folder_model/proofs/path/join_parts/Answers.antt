use Rattle.std.proofs.Common.{◌++◌, ◌∷◌, string_bytes, take, sym, ap, ◌∙◌, append-nil, add-one}
use Rattle.std.proofs.lemmas.List.{take_all}
use Rattle.std.specs.Rc.{rc_str_bytes}
use Rattle.folder_model.specs.Text.{text_of}
use Rattle.folder_model.proofs.Strings.{path_of, slashed, slashed-more, text_of-slashed, part_added}
use Rattle.folder_model.proofs.path.join_parts.Goals as goal

pub loop-part-init : goal.loop-part-init
loop-part-init c = sym (append-nil (string_bytes c.push_str.new.self))

pub loop-part-preserved : goal.loop-part-preserved
loop-part-preserved c =
    let k = c.loop-part.part-index in
    let rest = c.in-Some.rest.now in
    let first = string_bytes c.push_str.new.self in
    let part = c.as_str-in-loop-part.ensures.value ∙ ap (λ s. rc_str_bytes s) c.part-item.is in
    part_added first (slashed (path_of (take k rest))) c.as_str-in-loop-part.result.now (string_bytes c.loop-part.text)
    (string_bytes c.push_str-in-loop-part.new.self) (string_bytes c.push_str-in-loop-part-2.new.self) c.loop-part.invariant
    c.in_ok-push_str-2.ensures.bytes c.in_ok-push_str-3.ensures.bytes
    ∙ ap (λ l. first ++ (slashed (path_of (take k rest)) ++ 47 ∷ l)) part
    ∙ ap (λ l. first ++ l) (sym (slashed-more rest k c.part-item.result c.loop-part-test.true))
    ∙ ap (λ n. first ++ slashed (path_of (take n rest))) (sym (add-one k))

pub returns : goal.returns
returns c =
    let rest = c.in-Some.rest.now in
    let first = string_bytes c.push_str.new.self in
    let begun = c.in_ok-push_str.ensures.bytes ∙ ap (λ l. l ++ c.as_str.result.now) c.new-text.ensures.bytes ∙ c.as_str.ensures.value in
    c.loop-part.invariant
    ∙ ap (λ l. first ++ slashed (path_of l)) (take_all c.loop-part.part-index rest c.loop-part-test.false)
    ∙ ap (λ l. l ++ slashed (path_of rest)) begun
    ∙ sym (text_of-slashed (rc_str_bytes c.in-Some.first.now) (path_of rest))
    ∙ ap (λ l. text_of (path_of l)) (sym c.in-Some.ensures.cases.0)
