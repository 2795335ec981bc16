-- An element that was written in three pieces: its opening tag, what stands in it, and its closing tag.
use Rattle.std.proofs.Common.{◌≡◌, ◌∙◌, ℕ, List, ◌++◌, ap, append_assoc, codes, sym}

flat : (x b c d : List ℕ) → x ++ b ++ c ++ d ≡ x ++ (b ++ c ++ d)
flat x b c d = ap (λ (l : List ℕ). l ++ d) (append_assoc x b c) ∙ append_assoc x (b ++ c) d

pub framed : (name attributes inside a0 a1 a2 a3 : List ℕ) → a1 ≡ a0 ++ (codes "<" ++ name ++ attributes ++ codes ">") → a2 ≡ a1 ++ inside
    → a3 ≡ a2 ++ (codes "</" ++ name ++ codes ">\n")
    → a3 ≡ a0 ++ (codes "<" ++ name ++ attributes ++ codes ">" ++ inside ++ codes "</" ++ name ++ codes ">\n")
framed name attributes inside a0 a1 a2 a3 opened told ended =
    let front : List ℕ = codes "<" ++ name ++ attributes ++ codes ">" in
    let back : List ℕ = codes "</" ++ name ++ codes ">\n" in
    ended
    ∙ ap (λ (l : List ℕ). l ++ back) (told ∙ ap (λ (l : List ℕ). l ++ inside) opened ∙ append_assoc a0 front inside)
    ∙ append_assoc a0 (front ++ inside) back
    ∙ ap (λ (l : List ℕ). a0 ++ l) (sym (flat (front ++ inside) (codes "</") name (codes ">\n")))
