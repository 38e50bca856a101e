-- Draws that fail: at the first, and behind others.
use Rattle.std.proofs.Common.{◌≡◌, ℕ, suc, ◌+◌, ◌≤◌, List, [], ◌∷◌, ◌++◌, length, take, Option, Result, Ok, Err, IfErr, inl, inr, refl, sym, ap₂, ◌∙◌, subst, arith, length-append}
use Rattle.std.proofs.lemmas.List.Sums.{sum_by-cons}
use Rattle.port_model.specs.Counts.{CountRose}
use Rattle.port_model.specs.Draws.{ByteStream, Draws}
use Rattle.chunk_files.specs.declared.fault.EncodeFault.{EncodeFault}
use Rattle.chunk_files.specs.declared.fault.EncodeFault.TheVariants.{Random, ZeroRandom}
use Rattle.chunk_files.specs.declared.keys.Layout.{Layout}
use Rattle.chunk_files.specs.DrawFaults.{DrawFails, DrawsFirst}
use Rattle.chunk_files.specs.Format.{Format}
use Rattle.chunk_files.specs.Keys.{Keys, format_by, format_of}

pub none-drawn : (size : ℕ) (sizes : List ℕ) (left left' : Option ByteStream) → Draws left left' [] → DrawsFirst (size ∷ sizes) left left'
none-drawn size sizes left left' nothing = record { made = 0; not_all = omega arith; drawn = []; size = refl; were_drawn = nothing }

rose-since : (old now new : ℕ) → old ≤ now → CountRose now new → CountRose old new
rose-since old now new grew rose = elim rose [ inl more ↦ inl (omega (arith, grew, more)) | inr most ↦ inr most ]

pub fails-later : ((first second third : Option ByteStream) (xs ys : List ℕ) → Draws first second xs → Draws second third ys → Draws first third (xs ++ ys))
    → (f : Format) (size : ℕ) (sizes bytes : List ℕ) (left now left' : Option ByteStream) (n m n' : ℕ) (fault : EncodeFault) → Draws left now bytes → length bytes ≡ size → n ≤ m → fault ≡ Random
    → DrawFails f sizes now left' m n' fault → DrawFails f (size ∷ sizes) left left' n n' fault
fails-later compose f size sizes bytes left now left' n m n' Random drew long grew random fails = (
  rose-since n m n' grew fails.0,
  record {
    made = suc fails.1.made;
    not_all = omega (arith, fails.1.not_all);
    drawn = bytes ++ fails.1.drawn;
    size = length-append bytes fails.1.drawn ∙ ap₂ (λ (a b : ℕ). a + b) long fails.1.size ∙ sym (sum_by-cons (λ (x : ℕ). x) size (take fails.1.made sizes));
    were_drawn = compose left now left' bytes fails.1.drawn drew fails.1.were_drawn;
  },
)
fails-later compose f size sizes bytes left now left' n m n' ZeroRandom drew long grew random fails = cc

-- of a layout that is told
module _ (sizes : Format → List ℕ) (keys : Keys) (layout : Layout) (left left' : Option ByteStream) (n n' : ℕ) (is : keys.layout ≡ layout) where
  abbrev Fails : Layout → EncodeFault → Type 0
  Fails l fault = DrawFails (format_by l keys.key keys.mac) (sizes (format_by l keys.key keys.mac)) left left' n n' fault

  pub fault-by : (fault : EncodeFault) → Fails layout fault → DrawFails (format_of keys) (sizes (format_of keys)) left left' n n' fault
  fault-by fault fails = subst (λ (l : Layout). Fails l fault) (sym is) fails

  pub fails-by : (result : Result ℕ EncodeFault) → IfErr result (Fails layout) → IfErr result (DrawFails (format_of keys) (sizes (format_of keys)) left left' n n')
  fails-by (Ok count) fails = fails
  fails-by (Err fault) fails = fault-by fault fails
