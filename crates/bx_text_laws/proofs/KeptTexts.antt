-- The texts that nodes keep are terms by their bytes.
use Rattle.bx_text_laws.proofs.Commons.{ℕ, ◌↔◌, List, Sort, IsStanding, NoText, Stood, le_refl}
use Rattle.bx_text.specs.Grammar.{SpelledAs, Next, NoString}
use Rattle.bx_text_laws.proofs.Sentences.{given, there, not_there, here, not_here, term}

pub kept_texts_stand : (k : Sort) (w : List ℕ) → SpelledAs k w ↔ IsStanding k w
kept_texts_stand k w = (
  λ (d, p, l, s, q, n, t). let (v, e, st) = there p l n in (d, (p, given v l, s, q, st, term Next Stood NoString NoText there not_there t v e d (le_refl d))),
  λ (d, (p, l, s, q, st, t)). let (v, e, n) = here p l st in (d, p, given v l, s, q, n, term Stood Next NoText NoString here not_here t v e d (le_refl d)),
)
