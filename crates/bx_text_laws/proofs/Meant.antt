-- The text that an atom's token means.
use Rattle.bx_text_laws.proofs.Commons.{◌≡◌, List, ℕ, refl, Token, Body, spelled, meant}
use Rattle.bx_text.specs.Token as token

pub atom_meant : (u : Token) (w : List ℕ) → meant u ≡ token.atom (token.plain w) → (b : Body) × (u ≡ token.atom b) × (spelled b ≡ w)
atom_meant (token.atom b) w e = (b, refl, text)
  where
    text : spelled b ≡ w
    text = cc
atom_meant s w e = cc
