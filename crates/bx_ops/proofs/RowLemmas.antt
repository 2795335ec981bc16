-- A search through the rows of the code's table, against one through what they are of.
use Rattle.std.proofs.Common.{◌≡◌, List, [], ◌∷◌, Bool, true, false, cond, Some, map, refl, ap}
use Rattle.std.specs.List.{find}
use Rattle.std.specs.Option.{option_map}
use Rattle.bx_ops.specs.Rows.{first_with}

found : {Row Key Entry : Type 0} (key : Row → Key) (said : Row → Entry) (entry : Key → Entry) (test : Entry → Bool) (rows : List Row)
    → map said rows ≡ map entry (map key rows)
    → option_map key (find (λ row. test (said row)) rows) ≡ find (λ k. test (entry k)) (map key rows)
found key said entry test [] agree = refl
found {Row} key said entry test (row ∷ rows) agree =
    let here : said row ≡ entry (key row) = cc in
    let rest : map said rows ≡ map entry (map key rows) = cc in
    first (found key said entry test rows rest) (test (said row)) (test (entry (key row))) (ap test here)
  where
    first : option_map key (find (λ r. test (said r)) rows) ≡ find (λ k. test (entry k)) (map key rows)
        → (b c : Bool) → b ≡ c
        → option_map key (cond b (Some row) (find (λ r. test (said r)) rows))
        ≡ cond c (Some (key row)) (find (λ k. test (entry k)) (map key rows))
    first later true true same = refl
    first later false false same = later
    first later true false same = cc
    first later false true same = cc

-- where each row says what the definition says of its key
pub first-agreeing : {Row Key Entry : Type 0} (key : Row → Key) (said : Row → Entry) (entry : Key → Entry) (test : Entry → Bool) (rows : List Row)
    → map said rows ≡ map entry (map key rows) → first_with key said test rows ≡ find (λ k. test (entry k)) (map key rows)
unfolding first_with
first-agreeing key said entry test rows agree = found key said entry test rows agree
