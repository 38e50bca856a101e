-- Lines are told one after the other, and a finding's line part by part.
use Rattle.std.proofs.Common.{◌≡◌, ℕ, ◌+◌, ◌<◌, List, [], ◌∷◌, ◌++◌, length, get_or, take, Result, Ok, Err, OnOk, if◌then◌else◌, append_assoc, ap, ap₂, sym, ◌∙◌}
use Rattle.std.specs.List.{flat_map}
use Rattle.std.specs.Result.{is_ok}
use Rattle.std.proofs.lemmas.List.{flat_map_more, take_more}

pub line_more : {X : Type 0} (line : X → List ℕ) (items : List X) (k : ℕ) (item : X) (before now : List ℕ) → k < length items → item ≡ get_or items k item
    → before ≡ flat_map line (take k items) → now ≡ before ++ line item → now ≡ flat_map line (take (k + 1) items)
line_more line items k item before now few is so_far added =
    added ∙ ap (λ text. text ++ line item) so_far ∙ flat_map_more line [] (take k items) item
    ∙ ap (flat_map line) (ap (λ last. take k items ++ last ∷ []) is ∙ sym (take_more items k item few))

-- the parts as they are told, and as a line has them
parts_told : (old number name path fault : List ℕ)
    → (((old ++ (number ++ (32 ∷ (name ++ (32 ∷ []))))) ++ path) ++ fault) ++ (10 ∷ []) ≡ old ++ (number ++ (32 ∷ (name ++ (32 ∷ (path ++ (fault ++ (10 ∷ [])))))))
parts_told old number name path fault =
    append_assoc ((old ++ (number ++ (32 ∷ (name ++ (32 ∷ []))))) ++ path) fault (10 ∷ []) ∙ append_assoc (old ++ (number ++ (32 ∷ (name ++ (32 ∷ []))))) path (fault ++ (10 ∷ []))
    ∙ append_assoc old (number ++ (32 ∷ (name ++ (32 ∷ [])))) (path ++ (fault ++ (10 ∷ [])))
    ∙ ap (λ text. old ++ text)
    (append_assoc number (32 ∷ (name ++ (32 ∷ []))) (path ++ (fault ++ (10 ∷ []))) ∙ ap (λ text. number ++ (32 ∷ text)) (append_assoc name (32 ∷ []) (path ++ (fault ++ (10 ∷ [])))))

parts_of_line : (number name path fault : List ℕ)
    → number ++ 32 ∷ name ++ 32 ∷ path ++ fault ++ 10 ∷ [] ≡ number ++ (32 ∷ (name ++ (32 ∷ (path ++ (fault ++ (10 ∷ []))))))
parts_of_line number name path fault =
    append_assoc ((number ++ (32 ∷ name)) ++ (32 ∷ path)) fault (10 ∷ []) ∙ append_assoc (number ++ (32 ∷ name)) (32 ∷ path) (fault ++ (10 ∷ []))
    ∙ append_assoc number (32 ∷ name) (32 ∷ (path ++ (fault ++ (10 ∷ []))))

pub line_told : (number name path fault old heading named place one two three : List ℕ) → heading ≡ number ++ (32 ∷ (named ++ (32 ∷ []))) → named ≡ name → place ≡ path
    → one ≡ old ++ heading → two ≡ one ++ place → three ≡ two ++ fault → three ++ (10 ∷ []) ≡ old ++ (number ++ 32 ∷ name ++ 32 ∷ path ++ fault ++ 10 ∷ [])
line_told number name path fault old heading named place one two three is_heading is_name is_path first second third =
    ap (λ text. text ++ (10 ∷ []))
    (third ∙ ap (λ text. text ++ fault)
    (second ∙ ap₂ (λ (a b : List ℕ). a ++ b) (first ∙ ap (λ text. old ++ text) (is_heading ∙ ap (λ text. number ++ (32 ∷ (text ++ (32 ∷ [])))) is_name)) is_path))
    ∙ parts_told old number name path fault ∙ ap (λ text. old ++ text) (sym (parts_of_line number name path fault))

pub told_where_ok : {T E : Type 0} (result : Result T E) (before last whole now : List ℕ) → now ≡ (if is_ok result then before ++ last else before) → before ++ last ≡ whole
    → OnOk result (now ≡ whole)
told_where_ok (Ok x) before last whole now is all = is ∙ all
told_where_ok (Err e) before last whole now is all = tt
