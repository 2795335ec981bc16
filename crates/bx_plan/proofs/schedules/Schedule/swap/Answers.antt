use Rattle.bx_plan.proofs.Words.{◌≡◌, ℕ, ◌+◌, List, length, take, sym, ap, ◌∙◌, arith, take-take, Stretch, choices_from, made_before, common_steps}
use Rattle.bx_plan.proofs.Stretching.{grows, there}
use Rattle.bx_plan.proofs.schedules.Schedule.swap.Goals as goal

-- the first stretch begins where it began, when more was parted behind it
stays : (s1 s2 s3 : List Stretch) (n p : ℕ) → made_before n s1 ≡ p → take n s2 ≡ take n s1 → take (n + 1) s3 ≡ take (n + 1) s2 → made_before n s3 ≡ p
stays s1 s2 s3 n p begin one two =
    ap (λ (xs : List Stretch). length (choices_from 0 xs)) (sym (take-take n (n + 1) s3 (omega arith)) ∙ ap (take n) two ∙ take-take n (n + 1) s2 (omega arith) ∙ one) ∙ begin

pub part_at-requires-clause-end : goal.part_at-requires-clause-end
part_at-requires-clause-end c = grind (arith, common_steps, there, grows)

pub part_at-requires-2-clause-end : goal.part_at-requires-2-clause-end
part_at-requires-2-clause-end c = grind (arith, common_steps, there, grows)

pub exchange-requires-clause-first : goal.exchange-requires-clause-first
exchange-requires-clause-first c = grind (arith, stays)

pub exchange-requires-clause-second : goal.exchange-requires-clause-second
exchange-requires-clause-second c = grind (arith, stays)

pub returns-clause-ok : goal.returns-clause-ok
returns-clause-ok c = grind (arith, stays)
