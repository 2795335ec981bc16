-- Where the lines of processes begin among events.
use Rattle.std.proofs.Common.{◌≡◌, ℕ, zero, suc, ◌+◌, ◌<◌, ◌≤◌, ◌⊎◌, inl, inr, List, [], ◌∷◌, ◌++◌, Bool, map, length, refl, sym, ap, subst, ◌∙◌, arith, append-nil, append_assoc, length-append}
use Rattle.std.specs.Prelude.{Option, Some, None, option_map, is_some, if◌then◌else◌, nat_lt, slice_get, slice_set}
use Rattle.std.proofs.lemmas.Bool.{cases_Bool}
use Rattle.std.proofs.lemmas.Bool.Decides.{nat_tests}
use Rattle.std.proofs.lemmas.List.{length-map, map-append}
use Rattle.std.proofs.lemmas.Option.{slice_get-map}
use Rattle.bx_share.proofs.Places.{get_last, get_more}
use Rattle.bx_events.specs.declared.events.Event.{Event}
use Rattle.bx_events.specs.declared.events.Lane.{Lane}
use Rattle.bx_events.specs.declared.events.Stands.{Stands}
use Rattle.bx_events.specs.declared.events.Stands.TheVariants as stand
use Rattle.bx_events.specs.Births.{FoundNobody, HasPlace, IsBelow, IsBorn, StandsOn}
use Rattle.bx_events.specs.Lanes.{born_at, closed_in, ended_at, lanes_of, lanes_on, with_event}
use Rattle.bx_events.specs.Telling.{child_of}
use Rattle.bx_events.proofs.Flowing.{get_either}
use Rattle.bx_events.proofs.Outlines.{outline, outlined_at, born_same, nobody_same}

-- ---- the rows where lines begin

abbrev born_by : ℕ → Option ℕ → List (Option ℕ)
born_by row None = []
born_by row (Some child) = Some row ∷ []

abbrev births_from : ℕ → List Event → List (Option ℕ)
births_from row [] = []
births_from row (event ∷ more) = born_by row event.child ++ births_from (row + 1) more

abbrev pub births : List Event → List (Option ℕ)
births events = None ∷ births_from 0 events

abbrev birth_of : Lane → Option ℕ
birth_of lane = lane.born

set_born : (p row : ℕ) (lane : Lane) (lanes : List Lane) → slice_get lanes p ≡ Some lane → map birth_of (slice_set lanes p (record lane { ended = Some row })) ≡ map birth_of lanes
set_born p row lane [] at = refl
set_born zero row lane (x ∷ lanes) at = let same : lane ≡ x = cc in ap (λ (l : Lane). l.born ∷ map birth_of lanes) same
set_born (suc p) row lane (x ∷ lanes) at = ap (λ bs. x.born ∷ bs) (set_born p row lane lanes at)

closed_born : (row p : ℕ) (o : Option Lane) (lanes : List Lane) → slice_get lanes p ≡ o → map birth_of (closed_in row p o lanes) ≡ map birth_of lanes
closed_born row p None lanes at = refl
closed_born row p (Some lane) lanes at = elim (cases_Bool (is_some lane.ended)) [ inl e ↦ rw e | inr e ↦ rw e (set_born p row lane lanes at) ]

ended_born : (row p : ℕ) (s : Stands) (lanes : List Lane) → map birth_of (ended_at row p s lanes) ≡ map birth_of lanes
ended_born row p (stand.Ended reason) lanes = closed_born row p (slice_get lanes p) lanes refl
ended_born row p _ lanes = refl

added_born : (row : ℕ) (child : Option ℕ) (lanes : List Lane) → map birth_of (born_at row child lanes) ≡ map birth_of lanes ++ born_by row child
added_born row None lanes = sym (append-nil (map birth_of lanes))
added_born row (Some child) lanes = map-append birth_of lanes (record { born = Some row; ended = None } ∷ [])

lanes_born : (row : ℕ) (events : List Event) (lanes : List Lane) → map birth_of (lanes_on row events lanes) ≡ map birth_of lanes ++ births_from row events
lanes_born row [] lanes = sym (append-nil (map birth_of lanes))
lanes_born row (e ∷ events) lanes =
    lanes_born (row + 1) events (with_event row e lanes)
    ∙ ap (λ bs. bs ++ births_from (row + 1) events) (ended_born row e.actor e.stands (born_at row e.child lanes) ∙ added_born row e.child lanes)
    ∙ append_assoc (map birth_of lanes) (born_by row e.child) (births_from (row + 1) events)

births_are : (events : List Event) → map birth_of (lanes_of events) ≡ births events
births_are events = lanes_born 0 events (record { born = None; ended = None } ∷ [])

births_more : (row : ℕ) (events : List Event) (event : Event) → births_from row (events ++ event ∷ []) ≡ births_from row events ++ born_by (row + length events) event.child
births_more row [] event = append-nil (born_by row event.child) ∙ ap (λ n. born_by n event.child) (omega arith)
births_more row (e ∷ events) event =
    ap (λ bs. born_by row e.child ++ bs) (births_more (row + 1) events event ∙ ap (λ n. births_from (row + 1) events ++ born_by n event.child) (omega arith))
    ∙ sym (append_assoc (born_by row e.child) (births_from (row + 1) events) (born_by (row + length (e ∷ events)) event.child))

births_same : (row : ℕ) (events : List Event) → births_from row (map outline events) ≡ births_from row events
births_same row [] = refl
births_same row (e ∷ events) = ap (λ bs. born_by row e.child ++ bs) (births_same (row + 1) events)

-- ---- all of them are above the next row

abbrev IsOn : Option (Option ℕ) → ℕ → Type 0
IsOn None row = ⊥
IsOn (Some birth) row = IsBelow birth row

abbrev AllAbove : ℕ → List (Option ℕ) → Type 0
AllAbove row [] = Unit {0}
AllAbove row (birth ∷ more) = IsBelow birth row × AllAbove row more

all_above : (n row : ℕ) (events : List Event) → row + length events ≤ n → AllAbove n (births_from row events)
all_above n row [] h = tt
all_above n row (e ∷ events) h = go e.child (all_above n (row + 1) events (omega (arith, h)))
  where
    go : (child : Option ℕ) → AllAbove n (births_from (row + 1) events) → AllAbove n (born_by row child ++ births_from (row + 1) events)
    go None more = more
    go (Some child) more = (omega (arith, h), more)

on_line : (n p : ℕ) (births : List (Option ℕ)) → AllAbove n births → p < length births → IsOn (slice_get births p) n
on_line n p [] all h = absurd (omega (arith, h))
on_line n zero (birth ∷ more) all h = all.0
on_line n (suc p) (birth ∷ more) all h = on_line n p more all.1 (omega (arith, h))

-- ---- one event more, and one less

pub record Lined (events : List Event) (count : ℕ) : Type 0 where
  pub counts : length (births events) ≡ count
  pub born : (p : ℕ) (birth : Option ℕ) → slice_get (births events) p ≡ Some birth → IsBorn events p birth
  pub placed : (row : ℕ) (event : Event) → slice_get events row ≡ Some event → IsOn (slice_get (births events) event.actor) row ⊎ FoundNobody event

pub lined_start : Lined [] 1
lined_start = record { counts = refl; born = start; placed = λ row event at. cc }
  where
    start : (p : ℕ) (birth : Option ℕ) → slice_get (births []) p ≡ Some birth → IsBorn [] p birth
    start zero None at = refl
    start zero (Some row) at = cc
    start (suc p) birth at = cc

born_later : (events : List Event) (event : Event) (p : ℕ) (birth : Option ℕ) → IsBorn events p birth → IsBorn (events ++ event ∷ []) p birth
born_later events event p None h = h
born_later events event p (Some row) (later, spawn, at, child) = (later, spawn, get_more events (event ∷ []) row spawn at, child)

on_more : (o : Option (Option ℕ)) (row : ℕ) (bs cs : List (Option ℕ)) (p : ℕ) → slice_get bs p ≡ o → IsOn o row → IsOn (slice_get (bs ++ cs) p) row
on_more None row bs cs p at h = absurd h
on_more (Some birth) row bs cs p at h = subst (λ o. IsOn o row) (sym (get_more bs cs p birth at)) h

-- a process more, or none
child_is : (b : Bool) (n m : ℕ) → nat_lt n m ≡ b → n ≤ m → m ≤ n + 1 → (row : ℕ) → length (born_by row (if b then Some n else None)) + n ≡ m
child_is b n m e least most row = grind (arith, nat_tests)

one_of_child : (row k n : ℕ) (o : Option ℕ) (birth : Option ℕ) → slice_get (born_by row o) k ≡ Some birth → (k ≡ 0) × (birth ≡ Some row) × (child : ℕ) × (o ≡ Some child)
one_of_child row k n o birth at = grind arith

child_number : (b : Bool) (n child : ℕ) → (if b then Some n else None) ≡ Some child → child ≡ n
child_number b n child e = grind arith

module _ (events : List Event) (event : Event) where
  more_births : births (events ++ event ∷ []) ≡ births events ++ born_by (length events) event.child
  more_births = ap (λ bs. None ∷ bs) (births_more 0 events event ∙ ap (λ n. births_from 0 events ++ born_by n event.child) (omega arith))

  -- the child, where there is one, is the process behind those that were there
  pub lined_more : (n m : ℕ) → Lined events n → event.child ≡ child_of n m → n ≤ m → m ≤ n + 1 → (event.actor < n) ⊎ FoundNobody event → Lined (events ++ event ∷ []) m
  lined_more n m lined child least most place = record {
    counts = omega (arith, ap length more_births, length-append (births events) (born_by (length events) event.child), lined.counts, ap (λ o. length (born_by (length events) o)) child, child_is (nat_lt n m) n m refl least most (length events));
    born = λ p birth at. elim (get_either (births events) (born_by (length events) event.child) p birth (ap (λ bs. slice_get bs p) (sym more_births) ∙ at)) [
      | inl h ↦ born_later events event p birth (lined.born p birth h)
      | inr there ↦ spawned p birth there.0 there.1 (one_of_child (length events) there.0 n event.child birth there.2)
    ];
    placed = λ row other at. elim (get_either events (event ∷ []) row other at) [
      | inl h ↦ elim (lined.placed row other h) [ inl on ↦ inl (later other.actor row on) | inr nobody ↦ inr nobody ]
      | inr there ↦ here row other there.0 there.1 there.2
    ];
  }
    where
      spawned : (p : ℕ) (birth : Option ℕ) (k : ℕ) → p ≡ length (births events) + k → (k ≡ 0) × (birth ≡ Some (length events)) × (c : ℕ) × (event.child ≡ Some c) → IsBorn (events ++ event ∷ []) p birth
      spawned p birth k is (none, row, c, has) =
          let number : c ≡ p = omega (arith, is, none, lined.counts, child_number (nat_lt n m) n c (sym child ∙ has)) in
          subst (IsBorn (events ++ event ∷ []) p) (sym row) (omega (arith, is), event, get_last events event, has ∙ ap Some number)

      later : (p row : ℕ) → IsOn (slice_get (births events) p) row → IsOn (slice_get (births (events ++ event ∷ [])) p) row
      later p row on = subst (λ bs. IsOn (slice_get bs p) row) (sym more_births) (on_more (slice_get (births events) p) row (births events) (born_by (length events) event.child) p refl on)

      here : (row : ℕ) (other : Event) (k : ℕ) → row ≡ length events + k → slice_get (event ∷ []) k ≡ Some other → IsOn (slice_get (births (events ++ event ∷ [])) other.actor) row ⊎ FoundNobody other
      here row other (suc k) is at = cc
      here row other zero is at =
          let same : event ≡ other = cc in
          subst (λ (e : Event). IsOn (slice_get (births (events ++ event ∷ [])) e.actor) row ⊎ FoundNobody e) same (elim place [
            | inl there ↦ inl (later event.actor row (on_line row event.actor (births events) (tt, all_above row 0 events (omega (arith, is))) (omega (arith, there, lined.counts))))
            | inr nobody ↦ inr nobody
          ])

  -- an event without a child may go
  pub lined_less : (m : ℕ) → event.child ≡ None → Lined (events ++ event ∷ []) m → Lined events m
  lined_less m none lined =
      let same : births (events ++ event ∷ []) ≡ births events = more_births ∙ ap (λ o. births events ++ born_by (length events) o) none ∙ append-nil (births events) in
      record {
        counts = sym (ap length same) ∙ lined.counts;
        born = λ p birth at. earlier p birth (lined.born p birth (ap (λ bs. slice_get bs p) same ∙ at));
        placed = λ row other at. subst (λ bs. IsOn (slice_get bs other.actor) row ⊎ FoundNobody other) same (lined.placed row other (get_more events (event ∷ []) row other at));
      }
    where
      nobody : (spawn : Event) (p k : ℕ) → slice_get (event ∷ []) k ≡ Some spawn → spawn.child ≡ Some p → ⊥
      nobody spawn p zero at child = let same : event ≡ spawn = cc in let no : None ≡ Some p = sym none ∙ ap (λ (e : Event). e.child) same ∙ child in cc
      nobody spawn p (suc k) at child = cc

      earlier : (p : ℕ) (birth : Option ℕ) → IsBorn (events ++ event ∷ []) p birth → IsBorn events p birth
      earlier p None h = h
      earlier p (Some row) (later, spawn, at, child) = elim (get_either events (event ∷ []) row spawn at) [
        | inl h ↦ (later, spawn, h, child)
        | inr there ↦ absurd (nobody spawn p there.0 there.2 child)
      ]

-- ---- as the story tells it

stands_on : (o : Option Lane) (row : ℕ) → IsOn (option_map birth_of o) row → StandsOn o row
stands_on None row h = h
stands_on (Some lane) row h = h

module _ (events : List Event) (count : ℕ) (lined : Lined (map outline events) count) where
  as_lanes : births (map outline events) ≡ map birth_of (lanes_of events)
  as_lanes = ap (λ bs. None ∷ bs) (births_same 0 events) ∙ sym (births_are events)

  pub lane_born : (p : ℕ) (lane : Lane) → slice_get (lanes_of events) p ≡ Some lane → IsBorn events p lane.born
  lane_born p lane at =
      born_same events p lane.born (lined.born p lane.born (ap (λ bs. slice_get bs p) as_lanes ∙ slice_get-map birth_of (lanes_of events) p ∙ ap (option_map birth_of) at))

  pub has_place : (row : ℕ) (event : Event) → slice_get events row ≡ Some event → HasPlace (lanes_of events) row event
  has_place row event at = elim (lined.placed row (outline event) (outlined_at row events event at)) [
    | inl on ↦ inl (stands_on (slice_get (lanes_of events) event.actor) row (subst (λ o. IsOn o row) (ap (λ bs. slice_get bs event.actor) as_lanes ∙ slice_get-map birth_of (lanes_of events) event.actor) on))
    | inr nobody ↦ inr (nobody_same event nobody)
  ]

  pub lane_count : length (lanes_of events) ≡ count
  lane_count = sym (length-map (lanes_of events) birth_of) ∙ ap length (sym as_lanes) ∙ lined.counts
