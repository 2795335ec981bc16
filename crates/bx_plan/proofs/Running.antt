-- Reading a plan's lines one after another.
use Rattle.bx_plan.proofs.Words.{ℕ, ◌+◌, ◌≤◌, List, length, arith, nat_eq, length-slice_split, parts_of, count_by-le-length}

pub parts_few : (mark : ℕ) (text : List ℕ) → length (parts_of mark text) ≤ length text + 1
parts_few mark text = omega (arith, length-slice_split (λ b. nat_eq b mark) text, count_by-le-length (λ b. nat_eq b mark) text)
