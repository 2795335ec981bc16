-- Which choices are among those that are enabled.
use Rattle.bx_world.proofs.Words.{◌≡◌, ℕ, ◌+◌, zero, suc, List, [], ◌∷◌, ◌++◌, Option, Some, None, Bool, true, false, map, refl, sym, ap, subst, ◌∙◌, arith, IsTrue, ◌&&◌, if◌then◌else◌, is_none, is_some}
use Rattle.bx_world.proofs.Words.{slice_get, Trap, first, Channels, waiting, Signal, equal_pair, Choice, Run, Deliver, Expire, Lanes, Life, State, may_run, may_expire, choices_from, delivery, open_choices}
use Rattle.bx_world.proofs.Words.{may_at, unless_trapped, enabled, able, can}
use Rattle.std.proofs.Common.{◌↔◌}
use Rattle.std.specs.Prelude.{Contains, All}
use Rattle.std.specs.FinMap as finite
use Rattle.std.specs.FinMap.{contains_key-keys}
use Rattle.std.specs.Ordering.{eq_by_cmp}
use Rattle.std.proofs.lemmas.Cmp.{eq_by_cmp_equiv}
use Rattle.std.proofs.lemmas.List.{length-map}
use Rattle.std.proofs.Math.ListN.{get_or-map}
use Rattle.std.proofs.lemmas.List.Elements.{All-nil, All-cons, All-append, All-map, All-weaker, All-contains, All-contains_itself, Contains-append_left, Contains-append_right}
use Rattle.std.proofs.lemmas.Map.Views.{Contains-from_any, list_any-from_Contains}
use Rattle.bx_signals.specs.Channels.{pair_cmp, in_order, pairs}
use Rattle.bx_signals.proofs.Maps.{pair_cmp_total, tied}
use Rattle.bx_world.specs.Enabled.{deliveries}

-- a row, each element turned into another
contains_map : {A B : Type 0} (f : A → B) (xs : List A) (x : A) → Contains xs x → Contains (map f xs) (f x)
contains_map f xs x h = (h.0, omega (arith, length-map xs f, h.1), get_or-map f xs h.0 x ∙ ap f h.2)

-- the choices of processes that pass a test
module _ (may : Life → Bool) (choice : ℕ → Choice) where
  found_here : (n : ℕ) (rest : List Choice) (b : Bool) → b ≡ true → Contains (if b then choice n ∷ rest else rest) (choice (n + 0))
  found_here n rest true can = let same : n ≡ n + 0 = omega arith in (0, omega arith, ap choice same)
  found_here n rest false can = cc

  found_behind : (first it : Choice) (rest : List Choice) (b : Bool) → Contains rest it → Contains (if b then first ∷ rest else rest) it
  found_behind first it rest true h = (suc h.0, omega (arith, h.1), h.2)
  found_behind first it rest false h = h

  passes_in : (n : ℕ) (lives : List Life) (k : ℕ) → may_at may (slice_get lives k) ≡ true → Contains (choices_from may choice n lives) (choice (n + k))
  passes_in n [] k can = cc
  passes_in n (one ∷ more) zero can = found_here n (choices_from may choice (n + 1) more) (may one) can
  passes_in n (one ∷ more) (suc k) can =
      let same : n + 1 + k ≡ n + suc k = omega arith in
      found_behind (choice n) (choice (n + suc k)) (choices_from may choice (n + 1) more) (may one) (subst (λ p. Contains (choices_from may choice (n + 1) more) (choice p)) same (passes_in (n + 1) more k can))

  one_passes : (P : Choice → Type 0) (b : Bool) (it : Choice) (rest : List Choice) → (b ≡ true → P it) → All P rest → All P (if b then it ∷ rest else rest)
  one_passes P true it rest h k = All-cons P it rest (h refl) k
  one_passes P false it rest h k = k

  each_passes : (P : Choice → Type 0) (n : ℕ) (lives : List Life) → ((k : ℕ) → may_at may (slice_get lives k) ≡ true → P (choice (n + k))) → All P (choices_from may choice n lives)
  each_passes P n [] h = All-nil P
  each_passes P n (one ∷ more) h =
      let here : n + 0 ≡ n = omega arith in
      one_passes P (may one) (choice n) (choices_from may choice (n + 1) more) (λ can. subst (λ m. P (choice m)) here (h 0 can))
      (each_passes P (n + 1) more (λ k can. let same : n + suc k ≡ n + 1 + k = omega arith in subst (λ m. P (choice m)) same (h (suc k) can)))

  passes : (lives : List Life) (p : ℕ) → may_at may (slice_get lives p) ≡ true → Contains (choices_from may choice 0 lives) (choice p)
  passes lives p can = let same : 0 + p ≡ p = omega arith in subst (λ n. Contains (choices_from may choice 0 lives) (choice n)) same (passes_in 0 lives p can)

-- the channels in which something waits
tells : (x y : ℕ × ℕ) → eq_by_cmp pair_cmp x y ≡ true → x ≡ y
tells x y e = equal_pair x y (sym (tied x y) ∙ e)

first_some : (o : Option (Signal × List Signal)) → is_some (first (in_order o)) ≡ is_some o
first_some None = refl
first_some (Some s) = refl

waits_in : (m : Channels Signal) (p q : ℕ) → is_some (first (waiting m (p, q))) ≡ true → Contains (deliveries m) (Deliver p q)
waits_in m p q waits =
    contains_map delivery (pairs m) (p, q) (Contains-from_any tells (p, q) (pairs m) (sym (contains_key-keys m (p, q)) ∙ sym (first_some (finite.get m (p, q))) ∙ waits))

pair_waits : (m : Channels Signal) (k : ℕ × ℕ) → Contains (pairs m) k → is_some (first (waiting m k)) ≡ true
pair_waits m k h = first_some (finite.get m k) ∙ contains_key-keys m k ∙ list_any-from_Contains (eq_by_cmp_equiv pair_cmp_total) k (pairs m) h

-- all that are open
module _ (lives : List Life) (l : Lanes) where
  abbrev Runs : List Choice
  Runs = choices_from may_run Run 0 lives

  abbrev Expirations : List Choice
  Expirations = choices_from may_expire Expire 0 lives

  able_in : (choice : Choice) → able choice lives l ≡ true → Contains (open_choices lives l) choice
  able_in (Run p) can = Contains-append_left Runs (deliveries l.channels ++ Expirations) (Run p) (passes may_run Run lives p can)
  able_in (Deliver p q) can =
      Contains-append_right Runs (deliveries l.channels ++ Expirations) (Deliver p q) (Contains-append_left (deliveries l.channels) Expirations (Deliver p q) (waits_in l.channels p q can))
  able_in (Expire p) can =
      Contains-append_right Runs (deliveries l.channels ++ Expirations) (Expire p) (Contains-append_right (deliveries l.channels) Expirations (Expire p) (passes may_expire Expire lives p can))

  in_able : All (λ c. able c lives l ≡ true) (open_choices lives l)
  in_able =
      let P : Choice → Type 0 = λ c. able c lives l ≡ true in
      All-append P Runs (deliveries l.channels ++ Expirations) (each_passes may_run Run P 0 lives (λ k can. let same : k ≡ 0 + k = omega arith in subst (λ n. may_at may_run (slice_get lives n) ≡ true) same can))
      (All-append P (deliveries l.channels) Expirations
      (All-map P delivery (pairs l.channels) (All-weaker (Contains (pairs l.channels)) (λ k. P (delivery k)) (pair_waits l.channels) (pairs l.channels) (All-contains_itself (pairs l.channels))))
      (each_passes may_expire Expire P 0 lives (λ k can. let same : k ≡ 0 + k = omega arith in subst (λ n. may_at may_expire (slice_get lives n) ≡ true) same can)))

  enabled_in : (t : Option (Trap × ℕ)) (choice : Choice) → (is_none t && able choice lives l) ≡ true → Contains (unless_trapped t (open_choices lives l)) choice
  enabled_in None choice can = able_in choice can
  enabled_in (Some t) choice can = cc

  in_enabled : (t : Option (Trap × ℕ)) (choice : Choice) → Contains (unless_trapped t (open_choices lives l)) choice → (is_none t && able choice lives l) ≡ true
  in_enabled None choice h = All-contains (λ c. able c lives l ≡ true) (open_choices lives l) choice in_able h
  in_enabled (Some t) choice h = absurd (omega (arith, h.1))

pub can_is_enabled : (w : State) (choice : Choice) → IsTrue (can w choice) ↔ Contains (enabled w) choice
can_is_enabled w choice = (enabled_in w.processes w.lanes w.trap choice, in_enabled w.processes w.lanes w.trap choice)
