-- Characters with escapes, one at a time.
use Rattle.std.proofs.Common.{◌≡◌, ℕ, true, false, List, [], ◌∷◌, ◌++◌, refl, sym, ap, ◌∙◌, map, append_assoc, append-nil, arith}
use Rattle.std.specs.List.{fold}
use Rattle.std.specs.Char.{encode_utf8, InScalarRange, OutOfScalarRange}
use Rattle.std.specs.Str.{encode_utf8_all}
use Rattle.std.proofs.lemmas.Str.{encodes-append}
use Rattle.std.proofs.lemmas.Bool.Decides.{nat_tests}
use Rattle.bx_text.specs.declared.escapes.Escape.{Escape}
use Rattle.bx_text.specs.Escapes.{step, known, known_in, known_last, is_scalar}

pub fold_push : (s : Escape) (cs : List ℕ) (c : ℕ) → fold step s (cs ++ c ∷ []) ≡ step (fold step s cs) c
fold_push s [] c = refl
fold_push s (x ∷ cs) c = fold_push (step s x) cs c

pub known_push : (s : Escape) (cs : List ℕ) (c : ℕ) → known_in s (cs ++ c ∷ []) ≡ known_in s cs ++ known (fold step s cs) c
known_push s [] c = append-nil (known s c)
known_push s (x ∷ cs) c = ap (λ ys. known s x ++ ys) (known_push (step s x) cs c) ∙ sym (append_assoc (known s x) (known_in (step s x) cs) (known (fold step (step s x) cs) c))

pub one_encoded : (xs : List ℕ) (c : ℕ) → xs ++ encode_utf8 c ≡ xs ++ encode_utf8_all (c ∷ [])
one_encoded xs c = ap (λ ys. xs ++ ys) (sym (append-nil (encode_utf8 c)))

pub none_encoded : (xs : List ℕ) → xs ≡ xs ++ encode_utf8_all []
none_encoded xs = sym (append-nil xs)

pub two_encoded : (xs ys zs : List ℕ) → (xs ++ encode_utf8_all ys) ++ encode_utf8_all zs ≡ xs ++ encode_utf8_all (ys ++ zs)
two_encoded xs ys zs = append_assoc xs (encode_utf8_all ys) (encode_utf8_all zs) ∙ ap (λ ws. xs ++ ws) (sym (encodes-append ys zs))

pub scalar_in : (v : ℕ) → InScalarRange v → is_scalar v ≡ true
scalar_in v h = grind (arith, nat_tests)

pub scalar_out : (v : ℕ) → OutOfScalarRange v → is_scalar v ≡ false
scalar_out v h = grind (arith, nat_tests)

-- a turn of the decoding, and its end
pub decode_step : (start s : Escape) (out more : List ℕ) (cs : List ℕ) (c : ℕ) → out ≡ encode_utf8_all (known_in start cs) → s ≡ fold step start cs → more ≡ out ++ encode_utf8_all (known s c)
    → more ≡ encode_utf8_all (known_in start (cs ++ c ∷ []))
decode_step start s out more cs c e f g =
    g ∙ ap (λ xs. xs ++ encode_utf8_all (known s c)) e ∙ ap (λ t. encode_utf8_all (known_in start cs) ++ encode_utf8_all (known t c)) f
    ∙ sym (encodes-append (known_in start cs) (known (fold step start cs) c)) ∙ ap encode_utf8_all (sym (known_push start cs c))

pub decode_end : (start s : Escape) (out more : List ℕ) (cs : List ℕ) → out ≡ encode_utf8_all (known_in start cs) → s ≡ fold step start cs → more ≡ out ++ encode_utf8_all (known_last s)
    → more ≡ encode_utf8_all (known_in start cs ++ known_last (fold step start cs))
decode_end start s out more cs e f g =
    g ∙ ap (λ xs. xs ++ encode_utf8_all (known_last s)) e ∙ ap (λ t. encode_utf8_all (known_in start cs) ++ encode_utf8_all (known_last t)) f
    ∙ sym (encodes-append (known_in start cs) (known_last (fold step start cs)))

pub same_map : (cs : List ℕ) → map (λ c. c) cs ≡ cs
same_map [] = refl
same_map (c ∷ cs) = ap (λ ds. c ∷ ds) (same_map cs)
