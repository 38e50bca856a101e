use Rattle.std.proofs.Common.{◌∙◌, ◌-◌, sym, ap, take}
use Rattle.std.proofs.lemmas.List.{take-map, length-map}
use Rattle.std.specs.Rc.{rc_str_bytes}
use Rattle.folder_model.proofs.Strings.{parent_take, path_of}
use Rattle.folder_model.proofs.path.FPath.parent.Goals as goal

pub returns : goal.returns
returns c =
    let strings = c.deref.result.now in
    rw (← c.self.view_is, ← c.deref.ensures.value)
    (c.in_ok-parts.ensures
    ∙ sym (take-map (λ s. rc_str_bytes s) c.saturating_sub-depth.result strings)
    ∙ ap (λ n. take n (path_of strings)) (c.saturating_sub-depth.ensures ∙ ap (λ n. n - 1) (c.len.ensures ∙ sym c.deref.ensures.len ∙ sym (length-map strings (λ s. rc_str_bytes s))))
    ∙ sym (parent_take (path_of strings)))
