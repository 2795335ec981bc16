-- Each schedule is counted once, at its own outcome.
use Rattle.std.proofs.Common.{◌≡◌, ◌∙◌, ℕ, ◌+◌, Bool, true, false, cond, List, [], ◌∷◌, length, refl, sym, ap, arith}
use Rattle.std.specs.Str.{bytes_eq}
use Rattle.std.specs.Cmp.Lexicographic.{bytes_decides}
use Rattle.std.proofs.lemmas.Bool.{both_ways}
use Rattle.std.proofs.lemmas.List.Sums.{sum_by-cons}
use Rattle.bx_board.specs.declared.reports.Scheduled.{Scheduled}
use Rattle.bx_summary.specs.Counted.{AreDistinct, Counted, HasNone, counted, counted_at, ends_so, how_many, total, with_all, with_one}
use Rattle.bx_summary.specs.Endings.{ending_lines}

module _ (texts : List (List ℕ)) where
  total_more : (one : Scheduled) (outcomes : List Counted) → total (with_one texts one outcomes) ≡ total outcomes + 1
  total_more one [] = refl
  total_more one (outcome ∷ more) = by (ends_so texts (ending_lines texts one) outcome.0) (total_more one more) where
    by : (same : Bool) → total (with_one texts one more) ≡ total more + 1
        → total (cond same ((outcome.0, outcome.1 + 1) ∷ more) (outcome ∷ with_one texts one more)) ≡ outcome.1 + total more + 1
    by true e = omega arith
    by false e = omega (arith, e)

  total_all : (outcomes : List Counted) (schedules : List Scheduled) → total (with_all texts outcomes schedules) ≡ total outcomes + length schedules
  total_all outcomes [] = omega arith
  total_all outcomes (one ∷ more) = omega (arith, total_all (with_one texts one outcomes) more, total_more one outcomes)

  pub total_is : (schedules : List Scheduled) → total (counted texts schedules) ≡ length schedules
  total_is schedules = omega (arith, total_all [] schedules)

  apart : (xs ys : List ℕ) → bytes_eq xs ys ≡ false → xs ≡ ys → ⊥
  apart xs ys differ e = both_ways (bytes_eq xs ys) differ ((bytes_decides xs ys).1 e)

  -- one schedule more counts once, at its own lines
  own_more : (key : List ℕ) (one : Scheduled) (outcomes : List Counted) → counted_at texts key (with_one texts one outcomes) ≡ counted_at texts key outcomes + cond (ends_so texts key one) 1 0
  own_more key one [] = by (ends_so texts key one) where
    by : (same : Bool) → cond same 1 0 ≡ 0 + cond same 1 0
    by true = omega arith
    by false = omega arith
  own_more key one (outcome ∷ more) = by (ends_so texts (ending_lines texts one) outcome.0) refl (own_more key one more) where
    by : (same : Bool) → ends_so texts (ending_lines texts one) outcome.0 ≡ same → counted_at texts key (with_one texts one more) ≡ counted_at texts key more + cond (ends_so texts key one) 1 0
        → counted_at texts key (cond same ((outcome.0, outcome.1 + 1) ∷ more) (outcome ∷ with_one texts one more)) ≡ cond (ends_so texts key outcome.0) outcome.1 (counted_at texts key more) + cond (ends_so texts key one) 1 0
    by true e rest = here (ends_so texts key outcome.0) (ends_so texts key one) (ap (bytes_eq key) (sym ((bytes_decides (ending_lines texts one) (ending_lines texts outcome.0)).0 e))) where
      here : (b c : Bool) → b ≡ c → cond b (outcome.1 + 1) (counted_at texts key more) ≡ cond b outcome.1 (counted_at texts key more) + cond c 1 0
      here true true same = refl
      here false false same = omega arith
      here true false same = cc
      here false true same = cc
    by false e rest = there (ends_so texts key outcome.0) (ends_so texts key one) refl refl where
      there : (b c : Bool) → ends_so texts key outcome.0 ≡ b → ends_so texts key one ≡ c
          → cond b outcome.1 (counted_at texts key (with_one texts one more)) ≡ cond b outcome.1 (counted_at texts key more) + cond c 1 0
      there true true p q = absurd (apart (ending_lines texts one) (ending_lines texts outcome.0) e (sym ((bytes_decides key (ending_lines texts one)).0 q) ∙ (bytes_decides key (ending_lines texts outcome.0)).0 p))
      there true false p q = omega arith
      there false c p q = rest ∙ ap (λ b. counted_at texts key more + cond b 1 0) q

  own_all : (key : List ℕ) (outcomes : List Counted) (schedules : List Scheduled) → counted_at texts key (with_all texts outcomes schedules) ≡ counted_at texts key outcomes + how_many texts key schedules
  own_all key outcomes [] = omega arith
  own_all key outcomes (one ∷ more) =
      omega (arith, own_all key (with_one texts one outcomes) more, own_more key one outcomes, sum_by-cons (λ s. cond (ends_so texts key s) 1 0) one more)

  pub own_is : (key : List ℕ) (schedules : List Scheduled) → counted_at texts key (counted texts schedules) ≡ how_many texts key schedules
  own_is key schedules = omega (arith, own_all key [] schedules)

  none_more : (key : List ℕ) (one : Scheduled) (outcomes : List Counted) → HasNone texts key outcomes → (key ≡ ending_lines texts one → ⊥) → HasNone texts key (with_one texts one outcomes)
  none_more key one [] none other = (other, tt)
  none_more key one (outcome ∷ more) none other = by (ends_so texts (ending_lines texts one) outcome.0) (none_more key one more none.1 other) where
    by : (same : Bool) → HasNone texts key (with_one texts one more) → HasNone texts key (cond same ((outcome.0, outcome.1 + 1) ∷ more) (outcome ∷ with_one texts one more))
    by true rest = (none.0, none.1)
    by false rest = (none.0, rest)

  distinct_more : (one : Scheduled) (outcomes : List Counted) → AreDistinct texts outcomes → AreDistinct texts (with_one texts one outcomes)
  distinct_more one [] distinct = (tt, tt)
  distinct_more one (outcome ∷ more) distinct = by (ends_so texts (ending_lines texts one) outcome.0) refl (distinct_more one more distinct.1) where
    by : (same : Bool) → ends_so texts (ending_lines texts one) outcome.0 ≡ same → AreDistinct texts (with_one texts one more) → AreDistinct texts (cond same ((outcome.0, outcome.1 + 1) ∷ more) (outcome ∷ with_one texts one more))
    by true e rest = (distinct.0, distinct.1)
    by false e rest = (none_more (ending_lines texts outcome.0) one more distinct.0 (λ same. apart (ending_lines texts one) (ending_lines texts outcome.0) e (sym same)), rest)

  distinct_all : (outcomes : List Counted) (schedules : List Scheduled) → AreDistinct texts outcomes → AreDistinct texts (with_all texts outcomes schedules)
  distinct_all outcomes [] distinct = distinct
  distinct_all outcomes (one ∷ more) distinct = distinct_all (with_one texts one outcomes) more (distinct_more one outcomes distinct)

  pub distinct_is : (schedules : List Scheduled) → AreDistinct texts (counted texts schedules)
  distinct_is schedules = distinct_all [] schedules tt
