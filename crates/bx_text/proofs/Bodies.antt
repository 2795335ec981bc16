-- The bytes between quotes, a part at a time.
use Rattle.std.proofs.Common.{◌≡◌, ℕ, zero, suc, ◌+◌, ◌<◌, List, [], ◌∷◌, drop, refl, sym, ap, arith}
use Rattle.std.proofs.lemmas.List.{drop-drop}
use Rattle.bx_text.specs.Lexing.{body_len, part_width}

by_width : (q : ℕ) (bs : List ℕ) (w : ℕ) → part_width q bs ≡ suc w → body_len q bs ≡ suc w + body_len q (drop (suc w) bs)
by_width q [] w e = absurd (omega arith)
by_width q (b ∷ []) w e = grind arith
by_width q (b ∷ c ∷ []) w e = grind arith
by_width q (b ∷ c ∷ d ∷ ds) w e = grind arith

pub no_part : (q : ℕ) (bs : List ℕ) → part_width q bs ≡ 0 → body_len q bs ≡ 0
no_part q [] e = refl
no_part q (b ∷ []) e = grind arith
no_part q (b ∷ c ∷ []) e = grind arith
no_part q (b ∷ c ∷ d ∷ ds) e = grind arith

-- a turn of the count
pub body_step : (q : ℕ) (bs : List ℕ) (n w m : ℕ) → w ≡ part_width q (drop n bs) → 0 < w → n + body_len q (drop n bs) ≡ m → (n + w) + body_len q (drop (n + w) bs) ≡ m
body_step q bs n zero m e p h = absurd (omega arith)
body_step q bs n (suc w) m e p h = omega (arith, h, by_width q (drop n bs) w (sym e), ap (body_len q) (drop-drop (suc w) n bs))

-- the end of the count
pub body_end : (q : ℕ) (bs : List ℕ) (n m : ℕ) → 0 ≡ part_width q (drop n bs) → n + body_len q (drop n bs) ≡ m → n ≡ m
body_end q bs n m e h = omega (arith, h, no_part q (drop n bs) (sym e))
