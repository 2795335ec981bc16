-- Lives that are shown one after another.
use Rattle.std.proofs.Common.{◌≡◌, ◌∙◌, ℕ, zero, suc, ◌+◌, ◌≤◌, List, [], ◌∷◌, ◌++◌, drop, length, append_assoc, sym, ap, arith}
use Rattle.std.proofs.lemmas.List.{drop_all}
use Rattle.std.proofs.lemmas.Option.{get_or_from_slice_get, slice_get_within}
use Rattle.std.specs.Prelude.{Some, None, slice_get}
use Rattle.bx_share.specs.Rows.{rest_at}
use Rattle.bx_world.specs.World.{Life}
use Rattle.bx_debugger.specs.Program.{Program}
use Rattle.bx_debugger.specs.Where.{life_line, life_lines}

left_there : {A : Type 0} (xs : List A) (p : ℕ) (x : A) → Some x ≡ slice_get xs p → drop p xs ≡ x ∷ drop (p + 1) xs
left_there xs p x e = rest_at xs p x (slice_get_within xs p x (sym e)) (sym (get_or_from_slice_get xs p x x (sym e)))

none_past : {A : Type 0} (xs : List A) (p : ℕ) → None ≡ slice_get xs p → length xs ≤ p
none_past [] p e = omega arith
none_past (y ∷ xs) zero e = let no : None ≡ Some y = e in cc
none_past (y ∷ xs) (suc p) e = let h = none_past xs p e in omega (arith, h)

left_none : {A : Type 0} (xs : List A) (p : ℕ) → None ≡ slice_get xs p → (drop p xs ≡ []) × (drop (p + 1) xs ≡ [])
left_none xs p e = let h = none_past xs p e in (drop_all p xs h, drop_all (p + 1) xs (omega (arith, h)))

-- a life that is there, and those behind it
pub line_there : (program : Program) (lives : List Life) (p : ℕ) (life : Life) (old new : List ℕ) → Some life ≡ slice_get lives p → new ≡ old ++ life_line program p life
    → new ++ life_lines program (p + 1) (drop (p + 1) lives) ≡ old ++ life_lines program p (drop p lives)
line_there program lives p life old new e written =
    ap (λ t. t ++ life_lines program (p + 1) (drop (p + 1) lives)) written ∙ append_assoc old (life_line program p life) (life_lines program (p + 1) (drop (p + 1) lives))
    ∙ ap (λ ls. old ++ life_lines program p ls) (sym (left_there lives p life e))

pub no_line : (program : Program) (lives : List Life) (p : ℕ) (old : List ℕ) → None ≡ slice_get lives p
    → old ++ life_lines program (p + 1) (drop (p + 1) lives) ≡ old ++ life_lines program p (drop p lives)
no_line program lives p old e =
    let none = left_none lives p e in
    ap (λ ls. old ++ life_lines program (p + 1) ls) none.1 ∙ ap (λ ls. old ++ life_lines program p ls) (sym none.0)
