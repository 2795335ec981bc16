-- An element that was written in three pieces.
use Rattle.std.proofs.Common.{◌≡◌, ◌∙◌, ℕ, List, ◌++◌, ap, append_assoc, codes, sym}

flat : (x b c d e f : List ℕ) → x ++ b ++ c ++ d ++ e ++ f ≡ x ++ (b ++ c ++ d ++ e ++ f)
flat x b c d e f =
    ap (λ (l : List ℕ). l ++ d ++ e ++ f) (append_assoc x b c)
    ∙ ap (λ (l : List ℕ). l ++ e ++ f) (append_assoc x (b ++ c) d)
    ∙ ap (λ (l : List ℕ). l ++ f) (append_assoc x (b ++ c ++ d) e)
    ∙ append_assoc x (b ++ c ++ d ++ e) f

-- its name, its attributes, and what stands in it with its end
pub closed : (name attributes inside a0 a1 a2 a3 : List ℕ) → a1 ≡ a0 ++ (codes "<" ++ name) → a2 ≡ a1 ++ attributes
    → a3 ≡ a2 ++ (codes ">" ++ inside ++ codes "</" ++ name ++ codes ">\n")
    → a3 ≡ a0 ++ (codes "<" ++ name ++ attributes ++ codes ">" ++ inside ++ codes "</" ++ name ++ codes ">\n")
closed name attributes inside a0 a1 a2 a3 opened told ended =
    let tail : List ℕ = codes ">" ++ inside ++ codes "</" ++ name ++ codes ">\n" in
    ended
    ∙ ap (λ (l : List ℕ). l ++ tail) (told ∙ ap (λ (l : List ℕ). l ++ attributes) opened ∙ append_assoc a0 (codes "<" ++ name) attributes)
    ∙ append_assoc a0 (codes "<" ++ name ++ attributes) tail
    ∙ ap (λ (l : List ℕ). a0 ++ l) (sym (flat (codes "<" ++ name ++ attributes) (codes ">") inside (codes "</") name (codes ">\n")))
