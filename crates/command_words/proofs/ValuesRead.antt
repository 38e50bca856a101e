-- Values are read one after the other.
use Rattle.std.proofs.Common.{◌≡◌, ◌++◌, List, [], ◌∷◌, Option, None, Some, ap, append_assoc, option_map, subst, ◌∙◌}
use Rattle.command_words.specs.declared.values.Value.{Value}
use Rattle.command_words.specs.Values.{joined}

one_more_of : (value : Value) (before now : List Value) (rest whole : Option (List Value)) → now ≡ before ++ value ∷ []
    → option_map (λ more. before ++ more) (joined (Some value) rest) ≡ whole → option_map (λ more. now ++ more) rest ≡ whole
one_more_of value before now None whole is all = all
one_more_of value before now (Some more) whole is all = ap (λ items. Some (items ++ more)) is ∙ ap Some (append_assoc before (value ∷ []) more) ∙ all

-- the values so far, and then those of the rest, of which one more was read
pub one_more : (first : Option Value) (value : Value) (before now : List Value) (here rest whole : Option (List Value)) → now ≡ before ++ value ∷ []
    → first ≡ Some value → here ≡ joined first rest → option_map (λ more. before ++ more) here ≡ whole → option_map (λ more. now ++ more) rest ≡ whole
one_more first value before now here rest whole is read found all =
    one_more_of value before now rest whole is (subst (λ it. option_map (λ more. before ++ more) it ≡ whole) (found ∙ ap (λ it. joined it rest) read) all)
