-- What an exchange leaves as it was.
use Rattle.std.proofs.Common.{◌≡◌, ◌≢◌, ℕ, suc, ◌+◌, ◌-◌, ◌<◌, ◌≤◌, List, [], ◌∷◌, ◌++◌, length, take, drop, Bool, true, false, inl, inr, ◌⊎◌, refl, sym, ap, subst, ◌∙◌, arith, add-one}
use Rattle.std.specs.Prelude.{Option, Some, None, ◌==◌, if◌then◌else◌, slice_index_or}
use Rattle.std.proofs.lemmas.Bool.{cases_lt}
use Rattle.std.proofs.lemmas.List.{length-drop, length-take-le, take-append-drop, take-append-le}
use Rattle.std.proofs.lemmas.List.Edits.{length-swap}
use Rattle.std.proofs.lemmas.Option.{some_pair_parts}
use Rattle.std.proofs.Math.Seq.{take-append-add}
use Rattle.bx_world.specs.declared.choices.Choice.{Choice}
use Rattle.bx_world.specs.Enabled.{actor}
use Rattle.bx_world.specs.Running.{Ended, ran}
use Rattle.bx_world.proofs.Lawful.{ran_on}
use Rattle.bx_replay.specs.Courses.{Course, reached}
use Rattle.bx_replay.specs.Exchanges.{exchanged_at, next_apart, NextIndependent, MayExchange, with_exchange}
use Rattle.bx_replay.specs.Keeping.{IsReached, AreKept, Parts, SameCounts, Turns}
use Rattle.bx_replay.specs.Moving.{IndependentAt}
use Rattle.bx_replay.specs.declared.kept.Kept.{Kept}
use Rattle.bx_replay.proofs.Prefixes.{all_made}
use Rattle.bx_replay.proofs.Keeps.{count_of, no_later, stays}
use Rattle.bx_replay.proofs.Rows.{swapped}
use Rattle.bx_replay.proofs.Pairs.{goes_on, same_end, untrapped}

-- the choices of an exchange that may be made, and what stands around them
pub record Around (i : ℕ) (c : Course) : Type 0 where
  pub first : Choice
  pub second : Choice
  pub more : List Choice
  pub rest : drop i c.choices ≡ first ∷ second ∷ more
  pub same : ran c.image (first ∷ second ∷ []) (reached i c) ≡ ran c.image (second ∷ first ∷ []) (reached i c)

pub around : (i : ℕ) (c : Course) → MayExchange i c → Around i c
around i c h = by (drop i c.choices) refl h
  where
    by : (rest : List Choice) → drop i c.choices ≡ rest → NextIndependent c.image (reached i c) rest → Around i c
    by [] e h = absurd h
    by (first ∷ []) e h = absurd h
    by (first ∷ second ∷ more) e h = record { first = first; second = second; more = more; rest = e; same = same_end c.image first second (reached i c) h }

module _ (i : ℕ) (c : Course) (a : Around i c) where
  abbrev front : List Choice
  front = take i c.choices

  pub long : i + 2 ≤ length c.choices
  long = omega (arith, length-drop i c.choices, ap length a.rest)

  pub short : length (take i c.choices) ≡ i
  short = length-take-le i c.choices (omega (arith, long))

  pub old : c.choices ≡ take i c.choices ++ a.first ∷ a.second ∷ a.more
  old = sym (take-append-drop i c.choices) ∙ ap (λ zs. take i c.choices ++ zs) a.rest

  pub new : exchanged_at i c.choices ≡ take i c.choices ++ a.second ∷ a.first ∷ a.more
  new = swapped i (i + 1) c.choices a.first a.second a.more (add-one i) a.rest

  -- prefixes that end before both
  sooner : (n : ℕ) → n ≤ i → take n (exchanged_at i c.choices) ≡ take n c.choices
  sooner n h =
      cc (new, old, take-append-le n front (a.second ∷ a.first ∷ a.more) (omega (arith, short)), take-append-le n front (a.first ∷ a.second ∷ a.more) (omega (arith, short)))

  -- the prefix that ends between them
  pub halfway : reached (i + 1) (with_exchange i c) ≡ ran c.image (a.second ∷ []) (reached i c)
  halfway = cc (new, short, take-append-add front (a.second ∷ a.first ∷ a.more) 1, ran_on c.image front (a.second ∷ []) c.start)

  -- prefixes that end behind both
  later : (n : ℕ) → i + 2 ≤ n → reached n (with_exchange i c) ≡ reached n c
  later n h = cc (old, new, a.same, behind a.first a.second, behind a.second a.first) where
    k : ℕ
    k = n - (i + 2)

    behind : (x y : Choice) → ran c.image (take n (front ++ x ∷ y ∷ a.more)) c.start ≡ ran c.image (take (n - (i + 2)) a.more) (ran c.image (x ∷ y ∷ []) (reached i c))
    behind x y =
        let far : n ≡ length front + suc (suc (n - (i + 2))) = omega (arith, short) in
        cc (take-append-add front (x ∷ y ∷ a.more) (suc (suc (n - (i + 2)))), ran_on c.image front (x ∷ y ∷ take (n - (i + 2)) a.more) c.start)

  -- where a prefix leads that does not end between the two
  pub leads : (n : ℕ) → n ≢ i + 1 → reached n (with_exchange i c) ≡ reached n c
  leads n apart = elim (cases_lt n (i + 1)) [
    | inl lower ↦ ap (λ (zs : List Choice). ran c.image zs c.start) (sooner n (omega arith))
    | inr higher ↦ later n (omega arith)
  ]

  -- all of them
  pub whole : ran c.image (exchanged_at i c.choices) c.start ≡ ran c.image c.choices c.start
  whole = cc (old, new, a.same, ran_on c.image front (a.second ∷ a.first ∷ a.more) c.start, ran_on c.image front (a.first ∷ a.second ∷ a.more) c.start)

-- two that are found next to each other
pub pair_of : (first second : Choice) (rest : List Choice) → next_apart rest ≡ Some (first, second) → (more : List Choice) × (rest ≡ first ∷ second ∷ more)
pair_of first second [] e = absurd (cc)
pair_of first second (a ∷ []) e = absurd (cc)
pair_of first second (a ∷ b ∷ more) e = (more, by (actor a == actor b) e)
  where
    by : (same : Bool) → ◌≡◌ {A = Option (Choice × Choice)} (if same then None else Some (a, b)) (Some (first, second)) → a ∷ b ∷ more ≡ first ∷ second ∷ more
    by true e = cc
    by false e = let both = some_pair_parts a first b second e in cc (both.0, both.1)

-- how many lead behind one of two that are independent
pub count_behind : (c : Course) (i : ℕ) (x y : Choice) → i ≤ length c.choices → IndependentAt c.image (reached i c) x y → (ran c.image (y ∷ []) (reached i c)).applied ≡ c.start.applied + (i + 1)
count_behind c i x y h is =
    omega (arith, ap (λ (e : Ended). e.applied) (goes_on c.image y (reached i c) is.0 is.1.second_enabled), all_made c.image (take i c.choices) c.start is.0 (untrapped (reached i c).world x is.1.first_enabled), length-take-le i c.choices h)

-- what is kept of the one order, with the end between the two in its place, is kept of the other
pub turns : (i : ℕ) (c : Course) (between : Ended) (first second : Choice) (more : List Choice) → drop i c.choices ≡ first ∷ second ∷ more → IndependentAt c.image (reached i c) first second
    → between ≡ ran c.image (second ∷ []) (reached i c) → Turns c (with_exchange i c) between
turns i c between first second more rest is made =
    let a : Around i c = record { first = first; second = second; more = more; rest = rest; same = same_end c.image first second (reached i c) is } in
    let within = long i c a in
    let same = length-swap c.choices i (i + 1) in
    let count = ap (λ (e : Ended). e.applied) made ∙ count_behind c i first second (omega arith) is in
    let there : between.applied - c.start.applied ≡ i + 1 = omega arith in
    record {
      begins = refl;
      count = same;
      there = record { ahead = omega arith; within = omega arith; is = made ∙ sym (halfway i c a) ∙ ap (λ n. reached n (with_exchange i c)) (sym there) };
      elsewhere = λ n apart. leads i c a n (λ same. apart (same ∙ sym there));
    }

-- only the last of those within may be of so many choices
pub others : (c : Course) (kept : List Kept) (applied n : ℕ) → AreKept c kept → Parts kept applied n → (k : ℕ) (d : Kept) → k < length kept → suc k ≢ n → count_of (slice_index_or kept k d) ≢ applied
others c kept applied n are parts k d h apart = elim (cases_lt k n) [
  | inl before ↦ omega (arith, parts.bound, are.rising k (n - 1) d (omega arith) (omega (arith, parts.bound)), parts.last d (omega arith))
  | inr past ↦ omega (arith, no_later c kept n k d are past h, parts.next d (omega arith))
]

-- an end that is another one takes the place of the one that was kept, where one was
pub replaced : (old new : Course) (kept now : List Kept) (end : Ended) → AreKept old kept → Turns old new end → SameCounts kept now
    → ((k : ℕ) (d : Kept) → k < length kept → ((slice_index_or now k d).end ≡ end) ⊎ ((slice_index_or now k d ≡ slice_index_or kept k d) × (count_of (slice_index_or kept k d) ≢ end.applied)))
    → AreKept new now
replaced old new kept now end are t same each =
    let begins = ap (λ (e : Ended). e.applied) t.begins in
    record {
      few = omega (arith, are.few, begins, t.count);
      ends = λ k d h. elim (each k d (omega (arith, same.long))) [
        | inl is ↦ subst (IsReached new) (sym is) t.there
        | inr is ↦
            let e = (slice_index_or kept k d).end in
            let there = are.ends k d (omega (arith, same.long)) in
            let apart : e.applied - old.start.applied ≢ end.applied - old.start.applied = λ n. is.1 (omega (arith, n, there.ahead, t.there.ahead, begins)) in
            subst (λ (k : Kept). IsReached new k.end) (sym is.0) (stays old new e there begins (omega (arith, there.within, t.count)) (t.elsewhere (e.applied - old.start.applied) apart))
      ];
      past = λ k d h. omega (arith, are.past k d (omega (arith, same.long)), same.same k d (omega (arith, same.long)), begins);
      rising = λ j k d less h. omega (arith, are.rising j k d less (omega (arith, same.long)), same.same j d (omega (arith, same.long)), same.same k d (omega (arith, same.long)));
    }
