use Rattle.std.proofs.Common.{◌≡◌, map, take, string_bytes}
use Rattle.std.specs.Rc.{rc_str_bytes}
use Rattle.host_places.specs.Places.{place_text}
use Rattle.host_places.proofs.places.add_parts.Given as goal

-- the text is that of the parts so far
abbrev pub invariant-loop-part : goal.invariant-loop-part
invariant-loop-part l = string_bytes l.text ≡ place_text (string_bytes l.fn.text) (map (λ s. rc_str_bytes s) (take l.part-index l.parts))
