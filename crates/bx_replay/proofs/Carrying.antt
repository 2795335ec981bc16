-- Each exchange by which a choice is brought forward may be made, and what is kept stays good.
use Rattle.std.proofs.Common.{◌≡◌, ◌∙◌, ℕ, ◌+◌, ◌-◌, ◌<◌, ◌≤◌, List, [], ◌∷◌, ◌++◌, length, take, drop, append-nil, Bool, true, false, inl, inr, refl, sym, ap, subst, arith}
use Rattle.std.specs.Prelude.{slice_index_or, Some, None, ◌==◌, if◌then◌else◌, IsTrue}
use Rattle.std.proofs.lemmas.Bool.{both_ways, eq-eqb, cases_eq, cases_lt}
use Rattle.std.proofs.lemmas.List.{drop_all, get_or_default, take_all, take_more}
use Rattle.bx_load.specs.Image.{Loaded}
use Rattle.bx_world.specs.declared.choices.Choice.{Choice, TheVariants.Run}
use Rattle.bx_world.specs.World.{State}
use Rattle.bx_world.specs.Choosing.{chosen}
use Rattle.bx_world.specs.Running.{Ended, advanced, ran}
use Rattle.bx_world.proofs.Lawful.{ran_on}
use Rattle.bx_world.proofs.Orders.{either_way}
use Rattle.bx_replay.specs.Courses.{Course, reached}
use Rattle.bx_replay.specs.Exchanges.{with_exchange, MayExchange}
use Rattle.bx_replay.specs.Keeping.{AreKept, IsNearest, SameCounts, Turns}
use Rattle.bx_replay.specs.Moving.{brought, IsExchanged}
use Rattle.bx_replay.specs.Reaching.{BringsPast, FreeAt, IsFreeFrom, IsReach, PassesAt, Reaches}
use Rattle.bx_replay.specs.declared.kept.Kept.{Kept}
use Rattle.bx_replay.specs.declared.trails.rows.Reach.{Reach}
use Rattle.bx_replay.proofs.Bringing.{behind, brought_here, brought_on, down, front_is, further, none_made, one_made, rest_is}
use Rattle.bx_replay.proofs.Pairs.{goes_on, untrapped}
use Rattle.bx_replay.proofs.Turning.{count_behind, replaced, turns}

-- one choice more
pub reached_next : (c : Course) (i : ℕ) (d : Choice) → i < length c.choices → reached (i + 1) c ≡ advanced c.image (slice_index_or c.choices i d) (reached i c)
reached_next c i d h =
    ap (λ (cs : List Choice). ran c.image cs c.start) (take_more c.choices i d h) ∙ ran_on c.image (take i c.choices) (slice_index_or c.choices i d ∷ []) c.start

module _ (c : Course) (past : ℕ) (choice : Choice) (within : past < length c.choices) (is : choice ≡ slice_index_or c.choices past choice) where
  -- the choices, where it stands at i
  abbrev stood : ℕ → Course
  stood i = record c { choices = brought past i c.choices }

  stood_here : stood past ≡ c
  stood_here = ap (λ (cs : List Choice). record c { choices = cs }) (brought_here c.choices past choice within)

  -- an exchange may be made where the choice is free to pass the one before it
  may_pass : (i : ℕ) → i < past → FreeAt choice c i → MayExchange i (stood (i + 1))
  may_pass i lower free = rw (rest_is c.choices past choice within i lower, front_is c.choices past choice within i lower, ← is) free

  passed : (i : ℕ) → i < past → MayExchange i (stood (i + 1)) → FreeAt choice c i
  passed i lower may = rw (rest_is c.choices past choice within i lower, front_is c.choices past choice within i lower, ← is) at may

  exchange_is : (i : ℕ) → i < past → with_exchange i (stood (i + 1)) ≡ stood i
  exchange_is i lower = ap (λ (cs : List Choice). record c { choices = cs }) (brought_on c.choices past choice within i lower)

  -- where it leads, made before the one at i
  abbrev mid : ℕ → Ended
  mid i = ran c.image (choice ∷ []) (reached i c)

  turn : (i : ℕ) → i < past → FreeAt choice c i → Turns (stood (i + 1)) (stood i) (mid i)
  turn i lower free =
      subst (λ (d : Course). Turns (stood (i + 1)) d (mid i)) (exchange_is i lower)
      (turns i (stood (i + 1)) (mid i) (slice_index_or c.choices i choice) (slice_index_or c.choices past choice) (behind c.choices past choice within (i + 1)) (rest_is c.choices past choice within i lower)
      (rw (front_is c.choices past choice within i lower, ← is) free) (rw (front_is c.choices past choice within i lower, ← is) refl))

  module _ (rest : ℕ) (less : rest < past) (free : (i : ℕ) → rest ≤ i → i < past - 1 → PassesAt choice c i) (last : FreeAt choice c (past - 1)) where
    -- it is independent of each that it passes, the last one first
    all_free : (i : ℕ) → i ≤ past - 1 → rest ≤ i → FreeAt choice c i
    all_free = down (λ i. rest ≤ i → FreeAt choice c i) (past - 1) (λ _. last) (λ i lower up le.
        let x = slice_index_or c.choices i choice in
        let there = up (omega arith) in
        let turned = either_way c.image (reached (i + 1) c).world (slice_index_or c.choices (i + 1) choice) choice there.1 in
        let passes = free i le lower in
        let next : (reached (i + 1) c).world ≡ chosen c.image x (reached i c).world =
        ap (λ (e : Ended). e.world) (reached_next c i choice (omega arith) ∙ goes_on c.image x (reached i c) passes.refused passes.enabled) in (
          passes.refused,
          passes.independent (ap (λ (w : State). w.trap) (sym next) ∙ untrapped (reached (i + 1) c).world choice turned.first_enabled)
              (ap (λ (w : State). (chosen c.image choice w).trap) (sym next) ∙ turned.first_runs),
        ))

    pub all_may : (i : ℕ) → rest ≤ i → i < past → MayExchange i (stood (i + 1))
    all_may i le lower = may_pass i lower (all_free i (omega arith) le)

    pub all_exchanged : IsExchanged (past + 1) c (stood rest)
    all_exchanged = down (λ i. rest ≤ i → IsExchanged (past + 1) c (stood i)) past (λ _. subst (IsExchanged (past + 1) c) (sym stood_here) (none_made (past + 1) c)) (λ i lower up le.
        further (past + 1) c (stood (i + 1)) (stood i) (up (omega arith)) (subst (IsExchanged (past + 1) (stood (i + 1))) (exchange_is i lower) (one_made (past + 1) i (stood (i + 1)) (omega arith) (all_may i le lower))))
        rest (omega arith) (omega arith)

    -- the first exchange puts another end in the place of one; none is kept between that one and those that it passes
    pub all_kept : (kept now : List Kept) (near : Ended) → AreKept c kept → IsNearest c kept (past - 1) near → near.applied ≤ c.start.applied + rest → SameCounts kept now
        → ((old new : Course) → AreKept old kept → Turns old new (mid (past - 1)) → AreKept new now) → AreKept (stood rest) now
    all_kept kept now near are nearest before same put =
        let back : past - 1 + 1 ≡ past = omega arith in
        let first = subst (λ (d : Course). Turns d (stood (past - 1)) (mid (past - 1))) (ap stood back ∙ stood_here) (turn (past - 1) (omega arith) last) in
        down (λ i. rest ≤ i → AreKept (stood i) now) (past - 1) (λ _. put c (stood (past - 1)) are first) (λ i lower up le.
        replaced (stood (i + 1)) (stood i) now now (mid i) (up (omega arith)) (turn i (omega arith) (all_free i (omega arith) le)) (record { long = refl; same = λ k d h. refl })
        (λ k d h. inr (
          refl,
          λ e.
              let was = same.same k d (omega (arith, same.long)) in
              let made = count_behind c i (slice_index_or c.choices i choice) choice (omega arith) (all_free i (omega arith) le) in
              omega (arith, nearest.last k d (omega (arith, same.long)) (omega arith)),
        )))
        rest (omega arith) (omega arith)

-- ---- how far

pub none_yet : (choice : Choice) (first : ℕ) (c : Course) → IsFreeFrom choice first first c first
none_yet choice first c = record { order = omega arith; within = omega arith; free = λ i low high. absurd (omega arith); stuck = λ less. absurd (omega arith) }

-- one more
pub free_more : (choice : Choice) (first at : ℕ) (c : Course) (rest : ℕ) (free : Bool) → first ≤ at → IsFreeFrom choice first at c rest → (IsTrue free → PassesAt choice c at) → (FreeAt choice c at → IsTrue free)
    → IsFreeFrom choice first (at + 1) c (if free then rest else at + 1)
free_more choice first at c rest true order so_far told known =
    let inside = so_far.within in
    record {
      order = so_far.order;
      within = omega arith;
      free = λ i low high. elim (cases_lt i at) [
        | inl less ↦ so_far.free i low less
        | inr more ↦ let same : at ≡ i = omega arith in subst (PassesAt choice c) same (told refl)
      ];
      stuck = so_far.stuck;
    }
free_more choice first at c rest false order so_far told known = record {
  order = omega arith;
  within = omega arith;
  free = λ i low high. absurd (omega arith);
  stuck = λ less h. let here : at + 1 - 1 ≡ at = omega arith in let never : false ≡ true = known (subst (FreeAt choice c) here h) in cc;
}

pub end_step : (c : Course) (image : Loaded) (other d : Choice) (at : ℕ) (end new : Ended) → image ≡ c.image → at < length c.choices → other ≡ slice_index_or c.choices at d → end ≡ reached at c → new ≡ ran image (other ∷ []) end
    → new ≡ reached (at + 1) c
end_step c image other d at end new code within is here made = made ∙ (λ i. advanced (code i) (is i) (here i)) ∙ sym (reached_next c at d within)

-- ---- what a choice comes past

-- what is read of the choices
pub reads : (old c : Course) (x choice : Choice) (i : ℕ) → old ≡ c → i < length c.choices → choice ≡ slice_index_or old.choices i choice → choice ≡ slice_index_or c.choices i x
reads old c x choice i same within is = is ∙ ap (λ (c : Course). slice_index_or c.choices i choice) same ∙ get_or_default c.choices i choice x within

-- the choice that stands there, whatever is read past the last one
stands_there : (c : Course) (past : ℕ) → past < length c.choices → slice_index_or c.choices past (Run 0) ≡ slice_index_or c.choices past (slice_index_or c.choices past (Run 0))
stands_there c past h = get_or_default c.choices past (Run 0) (slice_index_or c.choices past (Run 0)) h

pub rest_within : (c : Course) (first past : ℕ) (reach : Reach) → past < length c.choices → Reaches first past c (Some reach) → reach.rest ≤ past - 1
rest_within c first past reach within is = (is (slice_index_or c.choices past (Run 0)) (stands_there c past within)).free.within

-- it does not pass the one before it
pub passes_none : (c : Course) (from to : ℕ) → to < from → from < length c.choices → Reaches to from c None → BringsPast from to c c from false
passes_none c from to order within none =
    let choice = slice_index_or c.choices from (Run 0) in
    let is = stands_there c from within in
    let here = brought_here c.choices from choice within in
    let back : from ≡ from - 1 + 1 = omega arith in
    record {
      reach = omega arith;
      start = omega arith;
      choices = sym here;
      exchanges = none_made (from + 1) c;
      steps = λ i low high. absurd (omega arith);
      on = λ e. cc;
      stuck = λ _ may. none choice is (passed c from choice within is (from - 1) (omega arith) (subst (λ (cs : List Choice). MayExchange (from - 1) (record c { choices = cs })) (sym here ∙ ap (λ n. brought from n c.choices) back) may));
    }

module _ (c : Course) (from to first : ℕ) (reach : Reach) (within : from < length c.choices) (le : to ≤ first) (is : Reaches first from c (Some reach)) (order : first < from) where
  abbrev m : Choice
  m = slice_index_or c.choices from (Run 0)

  abbrev there : m ≡ slice_index_or c.choices from m
  there = stands_there c from within

  abbrev came : IsReach first from c m reach
  came = is m there

  less : reach.rest < from
  less = omega (arith, order, rest_within c first from reach within is)

  -- those that it passes
  pub passes_some : BringsPast from to c (record c { choices = brought from reach.rest c.choices }) reach.rest (reach.rest == first)
  passes_some = record {
    reach = omega (arith, came.free.order);
    start = omega (arith, less);
    choices = refl;
    exchanges = all_exchanged c from m within there reach.rest less came.free.free came.last;
    steps = all_may c from m within there reach.rest less came.free.free came.last;
    on = λ _. less;
    stuck = λ e may.
        let apart : first < reach.rest = elim (cases_eq reach.rest first) [ inl same ↦ absurd (both_ways (reach.rest == first) e (eq-eqb reach.rest first same)) | inr ne ↦ omega (arith, ne, came.free.order) ] in
        let next : reach.rest ≡ reach.rest - 1 + 1 = omega arith in
        came.free.stuck apart (passed c from m within there (reach.rest - 1) (omega (arith, less)) (subst (λ n. MayExchange (reach.rest - 1) (record c { choices = brought from n c.choices })) next may));
  }

  -- what is kept of them
  pub kept_past : (kept now : List Kept) (near : Ended) → AreKept c kept → IsNearest c kept (from - 1) near → near.applied ≤ c.start.applied + first
      → ((old new : Course) → AreKept old kept → Turns old new reach.between → AreKept new now) → SameCounts kept now → AreKept (record c { choices = brought from reach.rest c.choices }) now
  kept_past kept now near are nearest before put counts =
      all_kept c from m within there reach.rest less came.free.free came.last kept now near are nearest (omega (arith, before, came.free.order)) counts (λ old new h t. put old new h (subst (Turns old new) (sym came.between) t))

-- ---- what is written

pub written_whole : (long : ℕ) (new items : List Choice) → long ≡ length items → length new ≡ length items → take long (new ++ drop (length new) items) ≡ new
written_whole long new items same all =
    ap (λ ys. take long (new ++ ys)) (drop_all (length new) items (omega arith)) ∙ ap (take long) (append-nil new) ∙ take_all long new (omega arith)
