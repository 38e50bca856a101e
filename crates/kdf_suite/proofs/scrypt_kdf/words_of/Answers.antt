use Rattle.std.proofs.Common.{◌∙◌, ◌+◌, add-one, ap, rules}
use Rattle.std.proofs.lemmas.List.{length_push}
use Rattle.kdf_suite.specs.Scrypt.{words_of}
use Rattle.kdf_suite.proofs.scrypt_kdf.words_of.Goals as goal

pub words-init : goal.words-init
unfolding words_of
words-init c = search rules

pub words-preserved : goal.words-preserved
unfolding words_of
words-preserved c = (
  rw (add-one, ← c.words.invariant.0, ← c.word_at.ensures) c.in_ok-push.ensures.items,
  rw c.in_ok-push.ensures.items (length_push _ _ ∙ ap (λ n. n + 1) c.words.invariant.1),
)
