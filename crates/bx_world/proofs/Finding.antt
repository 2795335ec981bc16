-- The choices that are found from a place on.
use Rattle.bx_world.proofs.Words.{◌≡◌, ◌≢◌, ℕ, ◌+◌, ◌<◌, ◌≤◌, Bool, List, [], ◌∷◌, ◌++◌, true, false, length, get_or, drop, map, sym, ap, ◌∙◌, append_assoc, arith, length-append, if◌then◌else◌, Choice, Life}
use Rattle.bx_world.proofs.Words.{choices_from}
use Rattle.bx_world.proofs.Viewed.{rest_seen}

-- a row that goes on behind all that was there before adds something
pub goes_on_behind : {A : Type 0} (old xs : List A) (y : A) (ys zs : List A) → length old ≤ length xs → xs ++ y ∷ ys ≡ old ++ zs → zs ≢ []
goes_on_behind old xs y ys zs long e nothing = absurd (omega (arith, length-append xs (y ∷ ys), length-append old zs, ap length e, ap length nothing))

pub some_last : {A : Type 0} (xs ys : List A) → ys ≢ [] → xs ++ ys ≢ []
some_last [] ys some e = some e
some_last (x ∷ xs) ys some e = cc

module _ (may : Life → Bool) (choice : ℕ → Choice) where
  found : (p : ℕ) (one : Life) (more : List Life) → may one ≡ true → choices_from may choice p (one ∷ more) ≡ choice p ∷ choices_from may choice (p + 1) more
  found p one more can = ap (λ b. if b then choice p ∷ choices_from may choice (p + 1) more else choices_from may choice (p + 1) more) can

  passed : (p : ℕ) (one : Life) (more : List Life) → may one ≡ false → choices_from may choice p (one ∷ more) ≡ choices_from may choice (p + 1) more
  passed p one more can = ap (λ b. if b then choice p ∷ choices_from may choice (p + 1) more else choices_from may choice (p + 1) more) can

  -- a process that passes the test adds its choice
  pub one_found : {S : Type 0} (f : S → Life) (xs : List S) (i : ℕ) (x : S) (before all : List Choice) → i < length xs → x ≡ get_or xs i x → may (f x) ≡ true
      → before ++ choices_from may choice i (drop i (map f xs)) ≡ all → (before ++ choice i ∷ []) ++ choices_from may choice (i + 1) (drop (i + 1) (map f xs)) ≡ all
  one_found f xs i x before all here is can whole =
      append_assoc before (choice i ∷ []) (choices_from may choice (i + 1) (drop (i + 1) (map f xs)))
      ∙ ap (λ found. before ++ found) (sym (ap (choices_from may choice i) (rest_seen f xs i x here is) ∙ found i (f x) (drop (i + 1) (map f xs)) can))
      ∙ whole

  -- another adds nothing
  pub one_passed : {S : Type 0} (f : S → Life) (xs : List S) (i : ℕ) (x : S) (before all : List Choice) → i < length xs → x ≡ get_or xs i x → may (f x) ≡ false
      → before ++ choices_from may choice i (drop i (map f xs)) ≡ all → before ++ choices_from may choice (i + 1) (drop (i + 1) (map f xs)) ≡ all
  one_passed f xs i x before all here is can whole =
      ap (λ found. before ++ found) (sym (ap (choices_from may choice i) (rest_seen f xs i x here is) ∙ passed i (f x) (drop (i + 1) (map f xs)) can)) ∙ whole

  -- where one passes, there is a choice
  pub one_there : {S : Type 0} (f : S → Life) (xs : List S) (i : ℕ) (x : S) (old before all : List Choice) → i < length xs → x ≡ get_or xs i x → may (f x) ≡ true
      → length old ≤ length before → before ++ choices_from may choice i (drop i (map f xs)) ≡ old ++ all → all ≢ []
  one_there f xs i x old before all here is can long whole =
      goes_on_behind old before (choice i) (choices_from may choice (i + 1) (drop (i + 1) (map f xs))) all long
      (ap (λ found. before ++ found) (sym (ap (choices_from may choice i) (rest_seen f xs i x here is) ∙ found i (f x) (drop (i + 1) (map f xs)) can)) ∙ whole)
