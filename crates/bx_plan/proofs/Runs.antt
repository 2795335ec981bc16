-- Choices that are taken in steps.
use Rattle.bx_plan.proofs.Words.{◌≡◌, ℕ, ◌+◌, ◌-◌, ◌<◌, ◌++◌, List, length, replicate, sym, ap, ◌∙◌, arith, append_assoc, length-append, length-replicate, replicate-append-replicate, Choice}

pub run_longer : (c : Choice) (m n : ℕ) (old mid left : List Choice) → old ≡ replicate m c ++ mid → mid ≡ replicate n c ++ left → old ≡ replicate (m + n) c ++ left
run_longer c m n old mid left e f = e ∙ ap (λ cs. replicate m c ++ cs) f ∙ sym (append_assoc (replicate m c) (replicate n c) left) ∙ ap (λ cs. cs ++ left) (replicate-append-replicate m n c)

-- all that were taken, by how many are left
pub run_taken : (c : Choice) (old left : List Choice) (n before after : ℕ) → 0 < n → old ≡ replicate n c ++ left → before ≡ length old → after ≡ length left
    → (0 < before - after) × (old ≡ replicate (before - after) c ++ left)
run_taken c old left n before after some e long rest = grind (arith, length-append, length-replicate)
