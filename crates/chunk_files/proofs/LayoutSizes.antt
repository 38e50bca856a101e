-- The sizes of each layout.
use Rattle.std.proofs.Common.{◌+◌, ◌<◌, List, [], ◌∷◌, ℕ, zero, suc, take, arith, refl}
use Rattle.std.specs.List.{sum}
use Rattle.chunk_files.specs.declared.keys.Layout.{Layout}
use Rattle.chunk_files.specs.declared.keys.Layout.TheVariants.{Go, CmGcm, CmCtr}
use Rattle.chunk_files.specs.Keys.{format_by}
use Rattle.chunk_files.specs.Layouts.{HasSizes, SizesFit}

-- where not all draws are made
of_one : (first made : ℕ) → 0 < first → made < 1 → sum (take made (first ∷ [])) < first
of_one first zero some fewer = some
of_one first (suc made) some fewer = absurd (omega (arith, fewer))

of_two : (first second made : ℕ) → 0 < second → made < 2 → sum (take made (first ∷ second ∷ [])) < first + second
of_two first second zero some fewer = omega (arith, some)
of_two first second (suc zero) some fewer = omega (arith, some)
of_two first second (suc (suc made)) some fewer = absurd (omega (arith, fewer))

sizes-by : (layout : Layout) (key mac : List ℕ) → HasSizes layout (format_by layout key mac)
sizes-by Go key mac = record {
  full = refl;
  some_full = omega arith;
  few_full = omega arith;
  few_stored = omega arith;
  some_header = omega arith;
  few_header = omega arith;
  some_drawn = omega arith;
  drawn_by_all = refl;
  drawn_by_some = λ made some. of_one 16 made (omega arith) some;
  some_nonce = omega arith;
  nonce_within = omega arith;
  few_sealed = omega arith;
  header_of_sixteen = λ refuses. refl;
  nonces_of_sixteen = λ refuses. refl;
}
sizes-by CmGcm key mac = record {
  full = refl;
  some_full = omega arith;
  few_full = omega arith;
  few_stored = omega arith;
  some_header = omega arith;
  few_header = omega arith;
  some_drawn = omega arith;
  drawn_by_all = refl;
  drawn_by_some = λ made some. of_two 12 32 made (omega arith) some;
  some_nonce = omega arith;
  nonce_within = omega arith;
  few_sealed = omega arith;
  header_of_sixteen = λ refuses. cc;
  nonces_of_sixteen = λ refuses. cc;
}
sizes-by CmCtr key mac = record {
  full = refl;
  some_full = omega arith;
  few_full = omega arith;
  few_stored = omega arith;
  some_header = omega arith;
  few_header = omega arith;
  some_drawn = omega arith;
  drawn_by_all = refl;
  drawn_by_some = λ made some. of_two 16 32 made (omega arith) some;
  some_nonce = omega arith;
  nonce_within = omega arith;
  few_sealed = omega arith;
  header_of_sixteen = λ refuses. cc;
  nonces_of_sixteen = λ refuses. cc;
}

pub sizes_fit : SizesFit
sizes_fit keys = sizes-by keys.layout keys.key keys.mac
