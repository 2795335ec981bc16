-- What stands on each chain, with a chain more.
use Rattle.bx_plan.proofs.Words.{◌≡◌, ℕ, zero, suc, ◌+◌, ◌<◌, ◌==◌, ◌&&◌, List, [], ◌∷◌, ◌++◌, length, get_or, set, refl, sym, ap, ◌∙◌, arith, length-append, get_or-append, get_or-append_seam, common_steps, is_kid, kids, no_head}
use Rattle.bx_plan.proofs.Words.{one_if, get_or-set_same, get_or-set_other, length_push, length-set, cases_eq, nat_tests, Head, begun, Chained, above, head, times}
use Rattle.std.proofs.Common.{nat_lt}
use Rattle.bx_plan.proofs.Times.{times-append}

-- chain d of one chain more stands on chain c: it did so before, or it is the new one
kid_sum : (n m d c a e x : ℕ) → 0 < n → m ≡ n + 1 → (d < n → e ≡ a) → (d ≡ n → e ≡ x)
    → one_if (nat_lt 0 d && nat_lt d m && (e == c)) ≡ one_if (nat_lt 0 d && nat_lt d n && (a == c)) + one_if ((x == c) && (d == n))
kid_sum n m d c a e x some more old new = grind (arith, nat_tests)

-- an empty row behind the others is read as no row is
empty_row : (rows : List (List ℕ)) (c : ℕ) → get_or (rows ++ [] ∷ []) c [] ≡ get_or rows c []
empty_row [] zero = refl
empty_row [] (suc c) = refl
empty_row (row ∷ rows) zero = refl
empty_row (row ∷ rows) (suc c) = empty_row rows c

module _ (all : Chained) (x : Head) (some : 0 < length all.heads) (rows : length all.kids ≡ length all.heads) (have : (c d : ℕ) → times d (kids all c) ≡ one_if (is_kid all c d)) (there : x.above < length all.heads) where
  abbrev next : Chained
  next = begun x all

  pub more_heads : length next.heads ≡ length all.heads + 1
  more_heads = length-append all.heads (x ∷ [])

  pub old_head : (c : ℕ) → c < length all.heads → head next c ≡ head all c
  old_head c h = get_or-append all.heads (x ∷ []) no_head c h

  pub new_head : head next (length all.heads) ≡ x
  new_head = get_or-append_seam all.heads x [] no_head

  abbrev row : List ℕ
  row = kids all x.above ++ length all.heads ∷ []

  pub more_kids : length next.kids ≡ length all.kids + 1
  more_kids = length_push (set all.kids x.above row) [] ∙ ap (λ n. n + 1) (length-set all.kids x.above row)

  row_more : (c d : ℕ) → times d (kids next c) ≡ times d (kids all c) + one_if ((x.above == c) && (d == length all.heads))
  row_more c d = grind (arith, common_steps, empty_row, cases_eq, get_or-set_same, times-append, nat_tests, get_or-set_other)

  pub kids_more : (c d : ℕ) → times d (kids next c) ≡ one_if (is_kid next c d)
  kids_more c d =
      row_more c d ∙ ap (λ n. n + one_if ((x.above == c) && (d == length all.heads))) (have c d)
      ∙ sym (kid_sum (length all.heads) (length next.heads) d c (above all d) (above next d) x.above some more_heads (λ l. ap (λ (h : Head). h.above) (old_head d l)) (λ e. ap (above next) e ∙ ap (λ (h : Head). h.above) new_head))
