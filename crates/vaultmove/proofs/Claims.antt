-- What was asked for where a command claims nothing, and where it only reads.
use Rattle.std.proofs.Common.{arith, ◌≡◌, ◌⊎◌, List, [], ◌∷◌, ◌++◌, refl, sym, ap, ◌∙◌, append-nil, flat_map, inl, inr, length, None, IsTrue}
use Rattle.command_words.specs.Requests.{Request}
use Rattle.command_words.specs.declared.rows.Claim.{Claim}
use Rattle.command_words.specs.declared.rows.Claim.TheVariants.{Shared, Alone}
use Rattle.command_words.specs.declared.rows.Place.TheVariants.{Value, JournalSource, JournalTarget}
use Rattle.host_ports.specs.Ground.{Ground}
use Rattle.vaultmove.specs.Claims.{AsksOrIsBarred, HasAsked, claimed, names_roots, only_reads}

-- what only reads names no journal
reads_name_none : (claims : List Claim) → IsTrue (only_reads claims) → IsTrue (names_roots claims) → ⊥
reads_name_none [] reads named = cc named
reads_name_none (Shared (Value number) ∷ claims) reads named = reads_name_none claims reads named
reads_name_none (Shared JournalSource ∷ claims) reads named = cc reads
reads_name_none (Shared JournalTarget ∷ claims) reads named = cc reads
reads_name_none (Alone place ∷ claims) reads named = cc reads

none_by_size : (claims : List Claim) → length claims ≡ 0 → claims ≡ []
none_by_size [] size = refl
none_by_size (claim ∷ claims) size = absurd (omega (arith, size))

names_none : (claims : List Claim) → claims ≡ [] → IsTrue (names_roots claims) → ⊥
names_none [] none named = cc named
names_none (claim ∷ claims) none named = cc none

pub nothing_asked : (request : Request) (ground : Ground) → length request.row.claims ≡ 0 → AsksOrIsBarred request ground
nothing_asked request ground size = inr (None, (λ named. absurd (names_none request.row.claims none named)), record { before = ground.asked; is = is })
  where
    none : request.row.claims ≡ []
    none = none_by_size request.row.claims size

    is : ground.asked ≡ ground.asked ++ flat_map (claimed request None) request.row.claims
    is = sym (append-nil ground.asked) ∙ ap (λ claims. ground.asked ++ flat_map (claimed request None) claims) (sym none)

pub reads_asked : (request : Request) (before after : Ground) → IsTrue (only_reads request.row.claims) → (HasAsked request None before ⊎ IsTrue before.barred.changes)
    → after.asked ≡ before.asked → after.barred.changes ≡ before.barred.changes → AsksOrIsBarred request after
reads_asked request before after reads asked same bars = elim asked [
  | inl all ↦ inr (None, (λ roots. absurd (reads_name_none request.row.claims reads roots)), record { before = all.before; is = same ∙ all.is })
  | inr barred ↦ inl (bars ∙ barred)
]
