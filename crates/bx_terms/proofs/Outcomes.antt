-- What follows from the answer of a definition that looks at one thing after another.
use Rattle.std.proofs.Common.{◌≡◌, Result, Ok, Err, refl, ap}
use Rattle.bx_terms.specs.Outcomes.{◌>>=◌}

pub ok_is : {A E : Type 0} (x y : A) → ◌≡◌ {A = Result A E} (Ok x) (Ok y) → x ≡ y
ok_is x y e = cc

pub ok_pair : {A B E : Type 0} (x u : A) (y v : B) → ◌≡◌ {A = Result (A × B) E} (Ok (x, y)) (Ok (u, v)) → (x ≡ u) × (y ≡ v)
ok_pair x u y v e = let both = ok_is (x, y) (u, v) e in (ap (λ p. p.0) both, ap (λ p. p.1) both)

-- what is answered at the end was answered at each step
pub bind_ok : {A B E : Type 0} (m : Result A E) (f : A → Result B E) (y : B) → (m >>= f) ≡ Ok y → (x : A) × (m ≡ Ok x) × (f x ≡ Ok y)
bind_ok (Ok x) f y e = (x, refl, e)
bind_ok (Err z) f y e = cc
