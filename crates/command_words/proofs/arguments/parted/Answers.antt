use Rattle.std.proofs.Common.{◌+◌, map, take, drop, length-drop, sym, ap, ◌∙◌, arith, string_bytes}
use Rattle.std.proofs.lemmas.List.{take-map, drop-map, take_all}
use Rattle.command_words.proofs.arguments.parted.Goals as goal

pub returns-then-end-words-clause-front : goal.returns-then-end-words-clause-front
returns-then-end-words-clause-front c =
    sym (take-map (λ s. string_bytes s) c.end_of-end.result c.args.words.now) ∙ ap (λ n. take n (map (λ s. string_bytes s) c.args.words.now)) c.end_of-end.ensures

pub returns-then-end-words-clause-behind : goal.returns-then-end-words-clause-behind
returns-then-end-words-clause-behind c =
    ap (map (λ s. string_bytes s)) (take_all _ _ (omega (arith, length-drop (c.end_of-end.result + 1) c.args.words.now)))
    ∙ sym (drop-map (λ s. string_bytes s) (c.end_of-end.result + 1) c.args.words.now)
    ∙ ap (λ n. drop (n + 1) (map (λ s. string_bytes s) c.args.words.now)) c.end_of-end.ensures
