-- What look-ups found.
use Rattle.std.proofs.Common.{◌≡◌, ℕ, zero, suc, ◌+◌, ◌-◌, ◌≤◌, true, false, Option, None, Some, is_some, List, [], ◌∷◌, ◌++◌, length, map, option_map, slice_get, take, refl, ap, arith}
use Rattle.std.specs.Prelude.{Result, Ok, Err, IfErr, IfOk}
use Rattle.bx_terms.specs.Outcomes.{◌>>=◌, Gives}
use Rattle.bx_terms.specs.declared.faults.Fault.{Fault}
use Rattle.bx_load.specs.Image.{Loaded}
use Rattle.bx_world.specs.World.{State, started}
use Rattle.bx_plan.specs.Plans.{Named}
use Rattle.bx_board.specs.declared.reports.Scheduled.{Scheduled}
use Rattle.bx_board.specs.Jobs.{Entry}
use Rattle.bx_board.specs.Reported.{report_from, reported_alone, told_alone}

-- ---- options

pub none_is : {A : Type 0} (o : Option A) → is_some o ≡ false → o ≡ None
none_is None h = refl
none_is (Some x) h = cc

pub some_is : {A : Type 0} (o : Option A) → is_some o ≡ true → (x : A) × (o ≡ Some x)
some_is None h = absurd (cc)
some_is (Some x) h = (x, refl)

-- a clause on any error, where nothing is said of the error
pub if_err_any : {A E P : Type 0} → (r : Result A E) → P → IfErr r (λ _. P)
if_err_any (Ok x) p = tt
if_err_any (Err e) p = p

-- ---- rows

-- a row whose last element is known
pub split_last : (xs : List ℕ) (i n : ℕ) → length xs ≡ i + 1 → slice_get xs i ≡ Some n → xs ≡ take i xs ++ n ∷ []
split_last [] i n len h = cc
split_last (x ∷ []) zero n len h = let same : x ≡ n = cc in ap (λ y. y ∷ []) same
split_last (x ∷ y ∷ ys) zero n len h = absurd (omega (arith, len))
split_last (x ∷ xs) (suc i) n len h = ap (λ ys. x ∷ ys) (split_last xs i n (omega (arith, len)) h)

none_past : (xs : List ℕ) (i : ℕ) → slice_get xs i ≡ None → length xs ≤ i
none_past [] i h = omega arith
none_past (x ∷ xs) zero h = cc
none_past (x ∷ xs) (suc i) h = omega (arith, none_past xs i h)

nothing_in : (xs : List ℕ) → length xs ≡ 0 → xs ≡ []
nothing_in [] h = refl
nothing_in (x ∷ xs) h = absurd (omega (arith, h))

-- a row without a last element is empty
pub empty_is : (xs : List ℕ) (i : ℕ) → i ≡ length xs - 1 → slice_get xs i ≡ None → xs ≡ []
empty_is xs i e h = nothing_in xs (omega (arith, e, none_past xs i h))

pub some_last : (xs : List ℕ) (i n : ℕ) → i ≡ length xs - 1 → slice_get xs i ≡ Some n → length xs ≡ i + 1
some_last [] i n e h = cc
some_last (x ∷ xs) i n e h = omega (arith, e)

-- ---- schedules

-- one schedule more is told behind those before it
pub told_next : (image : Loaded) (start : Entry) (plan : List Named) (i : ℕ) (one : Scheduled) → option_map (told_alone image start) (slice_get plan i) ≡ Some one
    → map (told_alone image start) (take i plan) ++ one ∷ [] ≡ map (told_alone image start) (take (i + 1) plan)
told_next image start [] i one e = absurd (cc)
told_next image start (s ∷ more) zero one e = ap (λ (t : Scheduled). t ∷ []) (cc)
told_next image start (s ∷ more) (suc i) one e =
    let counted : suc i + 1 ≡ suc (i + 1) = omega arith in
    rw counted (ap (λ (ts : List Scheduled). told_alone image start s ∷ ts) (told_next image start more i one e))

-- what a report is that was made anew
pub made_anew : (image : Loaded) (start : Entry) (plan : List Named) (takes : Type 0) (r : Result (List Scheduled) Fault) → Gives takes (λ report. report) r (report_from image start plan) → IfOk r (λ report. report ≡ reported_alone image start plan)
made_anew image start plan takes (Ok report) said = by (started image start.0 start.1) said where
  by : (s : Result State Fault) → (s >>= λ world. Ok (reported_alone image start plan)) ≡ Ok report → report ≡ reported_alone image start plan
  by (Ok world) e = cc
  by (Err fault) e = cc
made_anew image start plan takes (Err fault) said = tt
