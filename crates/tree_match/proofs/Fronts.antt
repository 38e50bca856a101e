-- Two contents are compared from the front.
use Rattle.std.proofs.Common.{◌≡◌, ◌≢◌, ℕ, ◌≤◌, min, Bool, true, false, eqb, List, [], ◌∷◌, ◌++◌, length, take, drop, refl, sym, ap, ap₂, ◌∙◌, arith, inl, inr, ◌⊎◌, append_assoc, eq-eqb}
use Rattle.std.proofs.Math.Bool.{and-false}
use Rattle.std.proofs.lemmas.Bool.{ne_eqb}
use Rattle.std.proofs.lemmas.Bool.Decides.{eqb_tells}
use Rattle.std.proofs.lemmas.List.{take-append-drop, length-take-le}
use Rattle.chunk_files.specs.Reading.{Ending, Whole, Wanting, Faulty}
use Rattle.folder_spec.specs.Path.{Path}
use Rattle.vault_faults.specs.declared.fault.Limit.TheVariants.{Depth, Items, Length, Input}
use Rattle.tree_match.specs.Comparing.{Content, Outcome, Is, Stops, IsFault, is_cut, compared}
use Rattle.tree_match.specs.Pieces.{Opened, nothing_before, uncompared}
use Rattle.tree_match.specs.declared.answer.MatchFault.{MatchFault}
use Rattle.tree_match.specs.declared.answer.MatchFault.TheVariants.{Damaged, Limit, Failed, NoMemory}

-- these bytes, and then the content
abbrev pub front : List ℕ → Content → Content
front xs a = record { at = a.at; bytes = xs ++ a.bytes; ending = a.ending }

-- ---- a common front

same_byte : (c : ℕ) (a b : Content) → compared (front (c ∷ []) a) (front (c ∷ []) b) ≡ compared a b
unfolding compared
same_byte c a b = rw (eq-eqb c c refl) refl

same_front : (xs : List ℕ) (a b : Content) → compared (front xs a) (front xs b) ≡ compared a b
same_front [] a b = refl
same_front (c ∷ xs) a b = same_byte c (front xs a) (front xs b) ∙ same_front xs a b

split : (n : ℕ) (xs : List ℕ) (a : Content) → front xs a ≡ front (take n xs) (front (drop n xs) a)
split n xs a =
    let bytes : xs ++ a.bytes ≡ take n xs ++ (drop n xs ++ a.bytes) =
    ap (λ (ys : List ℕ). ys ++ a.bytes) (sym (take-append-drop n xs)) ∙ append_assoc (take n xs) (drop n xs) a.bytes in
    ap (λ (ys : List ℕ). record { at = a.at; bytes = ys; ending = a.ending }) bytes

-- what is the same may be passed
pub go_on : (n : ℕ) (xs ys : List ℕ) (a b : Content) → take n xs ≡ take n ys → compared (front xs a) (front ys b) ≡ compared (front (drop n xs) a) (front (drop n ys) b)
go_on n xs ys a b same =
    ap₂ compared (split n xs a) (split n ys b)
    ∙ ap (λ (zs : List ℕ). compared (front (take n xs) (front (drop n xs) a)) (front zs (front (drop n ys) b))) (sym same)
    ∙ same_front (take n xs) (front (drop n xs) a) (front (drop n ys) b)

-- ---- where they part

other_byte : (c d : ℕ) (a b : Content) → c ≢ d → compared (front (c ∷ []) a) (front (d ∷ []) b) ≡ Is false
unfolding compared
other_byte c d a b other =
    let one : eqb c d ≡ false = ne_eqb c d other in
    let back : eqb d c ≡ false = ne_eqb d c (λ same. other (sym same)) in
    rw (one, back) (rw (and-false (is_cut a.ending), and-false (is_cut b.ending)) refl)

other_front : (xs ys : List ℕ) (a b : Content) → length xs ≡ length ys → xs ≢ ys → compared (front xs a) (front ys b) ≡ Is false
other_front [] [] a b long other = absurd (other refl)
other_front [] (d ∷ ys) a b long other = absurd (omega arith)
other_front (c ∷ xs) [] a b long other = absurd (omega arith)
other_front (c ∷ xs) (d ∷ ys) a b long other = by (eqb_tells c d) (other_front xs ys a b (omega (arith, long)))
  where
    by : ((eqb c d ≡ true) × (c ≡ d)) ⊎ ((eqb c d ≡ false) × (c ≢ d)) → (xs ≢ ys → compared (front xs a) (front ys b) ≡ Is false)
        → compared (front (c ∷ xs) a) (front (d ∷ ys) b) ≡ Is false
    by (inr h) later = other_byte c d (front xs a) (front ys b) h.1
    by (inl h) later =
        ap (λ (n : ℕ). compared (front (c ∷ xs) a) (front (n ∷ ys) b)) (sym h.1)
        ∙ same_byte c (front xs a) (front ys b)
        ∙ later (λ same. other (ap₂ (λ (n : ℕ) (zs : List ℕ). n ∷ zs) h.1 same))

pub part : (n : ℕ) (xs ys : List ℕ) (a b : Content) → n ≤ length xs → n ≤ length ys → (take n xs ≢ take n ys) → compared (front xs a) (front ys b) ≡ Is false
part n xs ys a b few less other =
    ap₂ compared (split n xs a) (split n ys b)
    ∙ other_front (take n xs) (take n ys) (front (drop n xs) a) (front (drop n ys) b) (length-take-le n xs few ∙ sym (length-take-le n ys less)) other

-- ---- where one ends

-- it ends where nothing is ahead
abbrev pub EndsAt : Path → List ℕ → Content → Type 0
EndsAt at xs a = xs ≡ [] → a ≡ nothing_before at Whole

both_end : (p q : Path) → compared (nothing_before p Whole) (nothing_before q Whole) ≡ Is true
unfolding compared
both_end p q = refl

first_ends : (p : Path) (d : ℕ) (ys : List ℕ) (b : Content) → compared (nothing_before p Whole) (front (d ∷ ys) b) ≡ Is false
unfolding compared
first_ends p d ys b = rw (and-false (is_cut b.ending)) refl

second_ends : (q : Path) (c : ℕ) (xs : List ℕ) (a : Content) → compared (front (c ∷ xs) a) (nothing_before q Whole) ≡ Is false
unfolding compared
second_ends q c xs a = rw (and-false (is_cut a.ending)) refl

pub ended : (p q : Path) (xs ys : List ℕ) (a b x y : Content) → a ≡ front xs x → b ≡ front ys y → EndsAt p xs a → EndsAt q ys b → min (length xs) (length ys) ≡ 0
    → compared a b ≡ Is (eqb (length xs) (length ys))
ended p q [] [] a b x y is_a is_b end_a end_b none = ap₂ compared (end_a refl) (end_b refl) ∙ both_end p q
ended p q [] (d ∷ ys) a b x y is_a is_b end_a end_b none =
    ap₂ compared (end_a refl) is_b ∙ first_ends p d ys y ∙ ap Is (sym (ne_eqb 0 (length (d ∷ ys)) (λ e. omega (arith, e))))
ended p q (c ∷ xs) [] a b x y is_a is_b end_a end_b none =
    ap₂ compared is_a (end_b refl) ∙ second_ends q c xs x ∙ ap Is (sym (ne_eqb (length (c ∷ xs)) 0 (λ e. omega (arith, e))))
ended p q (c ∷ xs) (d ∷ ys) a b x y is_a is_b end_a end_b none = absurd (omega (arith, none))

-- ---- where reading stops

-- what holds of each stop holds by the fault that tells it
pub fault_map : {P Q : Path → Ending → Type 0} → ((at : Path) (ending : Ending) → is_cut ending ≡ true → P at ending → Q at ending) → (fault : MatchFault) → IsFault P fault → IsFault Q fault
fault_map f (Damaged at fault) h = f at (Faulty fault) refl h
fault_map f (Limit (Length at)) h = f at Wanting refl h
fault_map f (Limit Depth) h = h
fault_map f (Limit Items) h = h
fault_map f (Limit Input) h = h
fault_map f Failed h = tt
fault_map f NoMemory h = tt

first_stops : (at : Path) (ending : Ending) (b : Content) → is_cut ending ≡ true → compared (nothing_before at ending) b ≡ Stops at ending
unfolding compared
first_stops at ending b cut = rw cut refl

-- the second stops where the first goes on, or has ended
second_stops_at : (p at : Path) (ending : Ending) (xs : List ℕ) (a x : Content) → a ≡ front xs x → EndsAt p xs a → is_cut ending ≡ true → compared a (nothing_before at ending) ≡ Stops at ending
unfolding compared
second_stops_at p at ending [] a x is end cut = ap (λ (c : Content). compared c (nothing_before at ending)) (end refl) ∙ rw cut refl
second_stops_at p at ending (c ∷ xs) a x is end cut =
    ap (λ (d : Content). compared d (nothing_before at ending)) is ∙ rw (and-false (is_cut x.ending), cut) refl

pub stops_first : (outcome : Outcome Bool) (a b : Content) → outcome ≡ compared a b → (fault : MatchFault) → IsFault (λ at ending. a ≡ nothing_before at ending) fault
    → IsFault (λ at ending. outcome ≡ Stops at ending) fault
stops_first outcome a b is fault h =
    fault_map (λ at ending cut same. is ∙ ap (λ (c : Content). compared c b) same ∙ first_stops at ending b cut) fault h

pub stops_second : (outcome : Outcome Bool) (p : Path) (xs : List ℕ) (a x b : Content) → outcome ≡ compared a b → a ≡ front xs x → EndsAt p xs a
    → (fault : MatchFault) → IsFault (λ at ending. b ≡ nothing_before at ending) fault → IsFault (λ at ending. outcome ≡ Stops at ending) fault
stops_second outcome p xs a x b is front_is end fault h =
    fault_map (λ at ending cut same. is ∙ ap (compared a) same ∙ second_stops_at p at ending xs a x front_is end cut) fault h

-- ---- an opened content

-- its front was passed
pub passed : (s t : Opened) (n : ℕ) → t.at ≡ s.at → t.decoding ≡ s.decoding → t.ahead ≡ drop n s.ahead → (file : List ℕ)
    → uncompared t file ≡ uncompared (record { at = s.at; decoding = s.decoding; ahead = drop n s.ahead }) file
passed s t n at_is decoding_is ahead_is file = λ i. uncompared (record { at = at_is i; decoding = decoding_is i; ahead = ahead_is i }) file
