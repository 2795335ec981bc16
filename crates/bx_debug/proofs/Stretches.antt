-- Choices that are walked part by part.
use Rattle.bx_debug.proofs.Words.{◌≡◌, suc, ◌+◌, ◌-◌, ◌<◌, ◌≤◌, ℕ, replicate, Chooses, List, [], ◌∷◌, ◌++◌, length, take, drop, true, false, Option, Some, None, refl, sym, ap, ◌∙◌, subst, append_assoc, arith}
use Rattle.bx_debug.proofs.Words.{length-append, is_some, Loaded, Choice, State, can, chosen, resumed, stop_before, stop_behind, unless_stopped, walked, led, all_enabled, Leads, Reaches, PlaceSet, Stop}
use Rattle.std.proofs.Math.Seq.{take-add}
use Rattle.std.proofs.lemmas.Bool.{and_from}
use Rattle.std.proofs.lemmas.List.{drop-append-le, drop-drop, drop_at, length-drop}
use Rattle.bx_debug.proofs.Leads.{led-append, enabled_both}
use Rattle.bx_debug.proofs.Walking.{enabled_unless, unless_is}

module _ {image : Loaded} {places : PlaceSet} where
  -- choices were applied, and behind them some of those that were left
  pub leads_joined : {choices : List Choice} {from : State} {m n : ℕ} {here next : State} {stop : Option Stop}
      → Leads image places choices from m here None → Leads image places (drop m choices) here n next stop → Leads image places choices from (m + n) next stop
  leads_joined {choices} {from} {m} {n} {here} {next} {stop} one two =
      let front = take m choices in
      let rest = drop m choices in
      let more = unless_stopped stop (walked image places (drop n rest) next) in
      let whole : take (m + n) choices ≡ front ++ take n rest = take-add m n choices in
      let first_within = one.within in
      let more_within = two.within in
      record {
        within = omega (arith, first_within, more_within, length-drop m choices);
        made = subst (λ (cs : List Choice). all_enabled image cs from ≡ true) (sym whole)
            (enabled_both image front (take n rest) from one.made (subst (λ (w : State). all_enabled image (take n rest) w ≡ true) one.shown two.made));
        shown = two.shown ∙ ap (led image (take n rest)) one.shown ∙ sym (led-append image front (take n rest) from) ∙ ap (λ (cs : List Choice). led image cs from) (sym whole);
        told = one.told
            ∙ ap (resumed front) two.told
            ∙ (λ j. (sym (append_assoc front (take n rest) more.0) j, more.1))
            ∙ (λ j. resumed (sym whole j) (unless_stopped stop (walked image places (drop-drop n m choices j) next)));
      }

  pub reaches_none : {w : State} → Reaches image places [] w 0 w None
  reaches_none = record { within = omega arith; whole = λ _. refl; leads = λ rest. record { within = omega arith; made = refl; shown = refl; told = refl } }

  -- the next choice is not applied
  pub reaches_before : {choice : Choice} {more : List Choice} {w : State} {stop : Stop} → stop_before choice w ≡ Some stop → Reaches image places (choice ∷ more) w 0 w (Some stop)
  reaches_before {choice} {more} {w} {stop} is = record {
    within = omega arith;
    whole = λ none. cc;
    leads = λ rest. record { within = omega arith; made = refl; shown = refl; told = unless_is (stop_before choice w) (Some stop) _ is };
  }

  -- it is applied, which stops the walk or not
  pub reaches_applied : (choice : Choice) (w : State) → stop_before choice w ≡ None → Reaches image places (choice ∷ []) w 1 (chosen image choice w) (stop_behind places choice (chosen image choice w))
  reaches_applied choice w free = record {
    within = omega arith;
    whole = λ _. refl;
    leads = λ rest. record { within = omega arith; made = and_from (can w choice) true (enabled_unless choice w free) refl; shown = refl; told = unless_is (stop_before choice w) None _ free };
  }

  -- what came of a choice that was tried
  pub chose_none : (choice : Choice) (w next : State) (stop : Option Stop) {behind : Option Stop} → stop ≡ None → Chooses image choice w next stop → behind ≡ stop_behind places choice next
      → Reaches image places (choice ∷ []) w 1 next behind
  chose_none choice w next None none done is = rw (is, done.1) (reaches_applied choice w done.0)
  chose_none choice w next (Some stop) none done is = cc

  pub chose_some : (choice : Choice) (w next : State) (stop : Option Stop) {found : Stop} → stop ≡ Some found → Chooses image choice w next stop → Reaches image places (choice ∷ []) w 0 next (Some found)
  chose_some choice w next None is done = cc
  chose_some choice w next (Some stop) is done = rw done.1 (reaches_before (done.0 ∙ is))

-- the next of many equal choices
pub next_one : {times made : ℕ} (choice : Choice) → made < times → replicate (times - made) choice ≡ (choice ∷ []) ++ replicate (times - (made + 1)) choice
next_one {times} {made} choice short = let more : times - made ≡ suc (times - (made + 1)) = omega (arith, short) in ap (λ n. replicate n choice) more

-- so many of some choices were applied, and these are left of them
pub record Far (image : Loaded) (places : PlaceSet) (choices : List Choice) (from : State) (applied : ℕ) (here : State) (left : List Choice) : Type 0 where
  pub within : applied ≤ length choices
  pub behind : drop applied choices ≡ left
  pub leads : (rest : List Choice) → Leads image places (choices ++ rest) from applied here None

pub far_none : {image : Loaded} {places : PlaceSet} {choices left : List Choice} {from : State} → choices ≡ left → Far image places choices from 0 from left
far_none is = record { within = omega arith; behind = is; leads = λ rest. record { within = omega arith; made = refl; shown = refl; told = refl } }

-- of those that are left a run is made next
module _ {image : Loaded} {places : PlaceSet} {choices left run : List Choice} {from : State} {applied n k : ℕ} {here next : State} {stop : Option Stop} (more : List Choice)
    (far : Far image places choices from applied here left) (is : left ≡ run ++ more) (reaches : Reaches image places run here n next stop) (sum : applied + n ≡ k) where
  count : length choices ≡ applied + (length run + length more)
  count =
      let within = far.within in
      let long : length (drop applied choices) ≡ length (run ++ more) = ap length (far.behind ∙ is) in
      omega (arith, within, long, length-drop applied choices, length-append run more)

  pub far_short : k ≤ length choices
  far_short = let within = reaches.within in omega (arith, within, count)

  far_leads : (rest : List Choice) → Leads image places (choices ++ rest) from k next stop
  far_leads rest =
      let there : run ++ (more ++ rest) ≡ drop applied (choices ++ rest) =
      sym (append_assoc run more rest) ∙ ap (λ (cs : List Choice). cs ++ rest) (sym (far.behind ∙ is)) ∙ sym (drop-append-le applied choices rest far.within) in
      subst (λ (m : ℕ). Leads image places (choices ++ rest) from m next stop) sum
      (leads_joined (far.leads rest) (subst (λ (cs : List Choice). Leads image places cs here n next stop) there (reaches.leads (more ++ rest))))

  -- it is stopped, or the last
  pub far_ends : (stop ≡ None → more ≡ []) → Reaches image places choices from k next stop
  far_ends last = record { within = far_short; whole = λ none. omega (arith, sum, count, reaches.whole none, ap length (last none)); leads = far_leads }

  pub far_on : stop ≡ None → Far image places choices from k next more
  far_on none = record {
    within = far_short;
    behind = ap (λ m. drop m choices) (sym sum) ∙ sym (drop-drop n applied choices) ∙ ap (drop n) (far.behind ∙ is) ∙ drop_at run more n (sym (reaches.whole none));
    leads = λ rest. subst (λ (s : Option Stop). Leads image places (choices ++ rest) from k next s) none (far_leads rest);
  }

pub none_of : (stop : Option Stop) → is_some stop ≡ false → stop ≡ None
none_of None found = refl
none_of (Some stop) found = cc
