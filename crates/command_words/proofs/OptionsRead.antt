-- Options are read one after the other.
use Rattle.std.proofs.Common.{◌≡◌, ◌++◌, List, [], Option, None, Some, ap, append-nil, option_map, sym, ◌∙◌}
use Rattle.command_words.specs.declared.values.Value.{Value}
use Rattle.command_words.specs.Values.{joined}

-- one option that writes no value leaves none
pub one_without : (first : Option Value) (before : List Value) (here rest whole : Option (List Value)) → first ≡ None → here ≡ joined first rest
    → option_map (λ more. before ++ more) here ≡ whole → None ≡ whole
one_without first before here rest whole none found all =
    sym (ap (λ it. option_map (λ more. before ++ more) it) (found ∙ ap (λ it. joined it rest) none)) ∙ all

-- behind the last option stand the values so far
pub all_read : (before : List Value) (here whole : Option (List Value)) → here ≡ Some [] → option_map (λ more. before ++ more) here ≡ whole → Some before ≡ whole
all_read before here whole done all = ap Some (sym (append-nil before)) ∙ sym (ap (λ it. option_map (λ more. before ++ more) it) done) ∙ all
