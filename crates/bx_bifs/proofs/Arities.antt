-- Numbers of arguments.
use Rattle.bx_bifs.proofs.Words.{◌≡◌, ℕ, ◌<◌, List, [], ◌∷◌, length, Option, Some, None, refl, sym, arith, option_map_or, AtomId, Tree, Bif, Given, undef}
use Rattle.bx_bifs.proofs.Words.{guard_of, guard_gives, named_gives}

either_way : (f : Bif → Given) → ((bif : Bif) → f bif ≡ undef) → (o : Option Bif) → undef ≡ option_map_or f o undef
either_way f same (Some bif) = sym (same bif)
either_way f same None = refl

-- no guard BIF takes more than two arguments
pub too_many : (texts : List (List ℕ)) (name : AtomId) (ts : List Tree) → 2 < length ts → undef ≡ named_gives texts name ts
too_many texts name [] many = absurd (omega arith)
too_many texts name (t ∷ []) many = absurd (omega arith)
too_many texts name (t ∷ u ∷ []) many = absurd (omega arith)
too_many texts name (t ∷ u ∷ v ∷ ts) many = either_way (λ bif. guard_gives texts bif (t ∷ u ∷ v ∷ ts)) (λ bif. refl) (guard_of texts name (length (t ∷ u ∷ v ∷ ts)))
