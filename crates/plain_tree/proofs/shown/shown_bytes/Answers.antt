use Rattle.std.proofs.Common.{◌≡◌, ℕ, ◌+◌, ◌<◌, List, [], ◌∷◌, ◌++◌, length, get_or, take, ap, sym, ◌∙◌, append-nil}
use Rattle.std.specs.List.{flat_map}
use Rattle.std.proofs.lemmas.List.{take_more}
use Rattle.std.proofs.lemmas.Grind.{flat_map-append}
use Rattle.plain_tree.specs.Shown.{shown_byte}
use Rattle.plain_tree.proofs.shown.shown_bytes.Goals as goal

one_more : (f : ℕ → List ℕ) (bytes : List ℕ) (i : ℕ) → i < length bytes → flat_map f (take (i + 1) bytes) ≡ flat_map f (take i bytes) ++ f (get_or bytes i 0)
one_more f bytes i within =
    let byte : ℕ = get_or bytes i 0 in
    ap (flat_map f) (take_more bytes i 0 within) ∙ flat_map-append f (take i bytes) (byte ∷ []) ∙ ap (λ last. flat_map f (take i bytes) ++ last) (append-nil (f byte))

pub loop-byte-preserved : goal.loop-byte-preserved
loop-byte-preserved c =
    let f = shown_byte c.is_text-utf8.result in
    let byte : ℕ = get_or c.args.bytes.now c.loop-byte.byte-index 0 in
    c.in_ok-push_shown.ensures ∙ ap (λ text. text ++ f byte) c.loop-byte.invariant ∙ sym (one_more f c.args.bytes.now c.loop-byte.byte-index c.loop-byte-test.true)
