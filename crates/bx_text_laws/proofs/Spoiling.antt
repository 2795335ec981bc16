-- Blanks are refused where a comment is no text in UTF-8.
use Rattle.bx_text_laws.proofs.Commons.{◌≡◌, ◌↔◌, Err, sym, ap, ◌∙◌, inl, inr, Fault, NotUtf8, Place, skip, Spoilt}
use Rattle.bx_text_laws.proofs.Blanking.{fails, went}

pub blanks_fail : (p : Place) (f : Fault) → (skip p ≡ Err f) ↔ ((q : Place) × Spoilt p q × (f ≡ NotUtf8 q.line))
blanks_fail p f = (λ h. elim (went p) [ inl x ↦ cc | inr x ↦ (x.0, x.1, (cc)) ], λ x. fails p x.0 x.1 ∙ ap (λ f. Err f) (sym x.2))
