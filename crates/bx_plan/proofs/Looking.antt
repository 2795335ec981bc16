-- Plans that are the same.
use Rattle.bx_plan.proofs.Words.{◌≡◌, List, [], ◌∷◌, refl, Line, line_view, lines_view}

pub lines_same : (xs ys : List Line) → lines_view xs ≡ lines_view ys → xs ≡ ys
lines_same [] [] e = refl
lines_same [] (y ∷ ys) e = absurd (cc)
lines_same (x ∷ xs) [] e = absurd (cc)
lines_same (x ∷ xs) (y ∷ ys) e =
    let head : line_view x ≡ line_view y = cc in
    let others : lines_view xs ≡ lines_view ys = cc in
    let tail = lines_same xs ys others in
    λ k. record { name = (head k).0; schedule = (head k).1 } ∷ tail k
