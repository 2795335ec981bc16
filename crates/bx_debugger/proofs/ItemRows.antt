-- Items that are listed one after another.
use Rattle.std.proofs.Common.{◌≡◌, ◌∙◌, ℕ, suc, ◌+◌, ◌-◌, ◌<◌, List, Some, ◌++◌, append_assoc, codes, sym, ap, arith}
use Rattle.bx_load.specs.Image.{placed}
use Rattle.bx_debugger.specs.Program.{Program}
use Rattle.bx_debugger.specs.Words.{here_words}
use Rattle.bx_debugger.specs.Functions.{item_lines}

-- one item, and those behind it
lines_more : (program : Program) (m n past : ℕ) → n < past → item_lines program m n (past - n) ≡ (here_words program (Some (placed m n)) ++ codes "\n") ++ item_lines program m (n + 1) (past - (n + 1))
lines_more program m n past h = let e : past - n ≡ suc (past - (n + 1)) = omega (arith, h) in ap (item_lines program m n) e

pub items_next : (program : Program) (m n past : ℕ) (out new whole : List ℕ) → n < past → new ≡ out ++ (here_words program (Some (placed m n)) ++ codes "\n") → out ++ item_lines program m n (past - n) ≡ whole
    → new ++ item_lines program m (n + 1) (past - (n + 1)) ≡ whole
items_next program m n past out new whole h written so =
    ap (λ t. t ++ item_lines program m (n + 1) (past - (n + 1))) written
    ∙ append_assoc out (here_words program (Some (placed m n)) ++ codes "\n") (item_lines program m (n + 1) (past - (n + 1)))
    ∙ ap (λ t. out ++ t) (sym (lines_more program m n past h)) ∙ so
