use Rattle.std.proofs.Common.{ℕ, List, [], ◌∷◌, ◌++◌, map, take, string_bytes, sym, ap, ◌∙◌}
use Rattle.std.proofs.lemmas.List.{flat_map_more, map_more}
use Rattle.std.specs.Rc.{rc_str_bytes}
use Rattle.host_places.specs.Places.{place_text}
use Rattle.host_places.proofs.places.add_parts.Goals as goal

pub loop-part-preserved : goal.loop-part-preserved
loop-part-preserved c =
    let so_far : List (List ℕ) = map (λ s. rc_str_bytes s) (take c.loop-part.part-index c.args.parts.now) in
    c.in_ok-add_part.ensures
    ∙ ap (λ text. text ++ 47 ∷ c.as_str.result.now) c.loop-part.invariant
    ∙ ap (λ part. place_text (string_bytes c.args.text.now) so_far ++ 47 ∷ part) c.as_str.ensures.value
    ∙ flat_map_more (λ part. 47 ∷ part) (string_bytes c.args.text.now) so_far (rc_str_bytes c.part-item.result)
    ∙ ap (place_text (string_bytes c.args.text.now))
    (sym (map_more (λ s. rc_str_bytes s) c.args.parts.now c.loop-part.part-index c.part-item.result c.loop-part-test.true ∙ ap (λ s. so_far ++ rc_str_bytes s ∷ []) (sym c.part-item.is)))
