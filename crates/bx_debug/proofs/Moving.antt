-- Sessions whose position moves, and to which choices are added.
use Rattle.bx_debug.proofs.Words.{◌≡◌, ◌≢◌, ℕ, ◌+◌, ◌≤◌, List, [], ◌∷◌, ◌++◌, length, take, true, Option, None, refl, sym, ap, ◌∙◌, subst, arith, Some, Ok, length-append, Loaded, Choice, State, refusal, Ended, ran}
use Rattle.bx_debug.proofs.Words.{unchosen, Course, reached, led, all_enabled, come, IsSession, Went, PlaceSet, History, behind, world_of, with_made, gone, or_refused, stepped, GoTakes, stop_at_once, walked, Stop}
use Rattle.bx_debug.proofs.Words.{Bound, Pause, pause_before}
use Rattle.std.proofs.Math.Path.{transport}
use Rattle.std.proofs.lemmas.List.{take_all, length-take-le}
use Rattle.bx_debug.specs.Sessions.{went}
use Rattle.bx_debug.proofs.Walking.{one_applied, unrefused, walked_none, walked_some}
use Rattle.bx_debug.proofs.Leads.{led-append, enabled_both, enabled_take, ran_all}

abbrev pub history : Course → ℕ → PlaceSet → History
history trail at places = record { image = trail.image; start = trail.start.world; choices = trail.choices; at = at; places = places }

module _ {trail : Course} {at : ℕ} {here : State} (s : IsSession trail at here) where
  -- the world that so many choices lead to
  pub led_all : (n : ℕ) → reached n trail ≡ come (led trail.image (take n trail.choices) trail.start.world) (length (take n trail.choices))
  led_all n = ap (ran trail.image (take n trail.choices)) s.begins ∙ ran_all trail.image (take n trail.choices) trail.start.world (enabled_take trail.image n trail.choices trail.start.world s.made)

  pub led_to : {end : Ended} (n : ℕ) → end ≡ reached n trail → end.world ≡ led trail.image (take n trail.choices) trail.start.world
  led_to n is = ap (λ (e : Ended). e.world) (is ∙ led_all n)

  -- the world at a position is the run of the choices before it
  pub reached_here : reached at trail ≡ come here at
  reached_here = led_all at ∙ (λ i. come (sym s.shown i) (length-take-le at trail.choices s.within i))

  pub run_shown : ran trail.image (take at trail.choices) (unchosen trail.start.world) ≡ come here at
  run_shown = ap (ran trail.image (take at trail.choices)) (sym s.begins) ∙ reached_here

  pub shown_there : {h : History} {places : PlaceSet} → history trail at places ≡ h → here ≡ world_of h
  shown_there view_is = ap (λ (end : Ended). end.world) (sym run_shown) ∙ ap world_of view_is

  -- what is so of its code, its breakpoints and its world
  pub seen_there : {A : Type 0} (f : Loaded → PlaceSet → State → A) {h : History} {places : PlaceSet} {image : Loaded} → image ≡ trail.image → history trail at places ≡ h
      → f image places here ≡ f h.image h.places (world_of h)
  seen_there f code view_is = λ i. f ((code ∙ ap (λ (g : History). g.image) view_is) i) (ap (λ (g : History). g.places) view_is i) (shown_there view_is i)

  pub paused_there : (bound : Bound) (p : ℕ) {h : History} {places : PlaceSet} {image : Loaded} {why found : Option Pause} → image ≡ trail.image → history trail at places ≡ h
      → why ≡ pause_before bound image places p here → why ≡ found → pause_before bound h.image h.places p (world_of h) ≡ found
  paused_there bound p code view_is is found = sym (seen_there (λ i ps w. pause_before bound i ps p w) code view_is) ∙ sym is ∙ found

  -- where those before the position lead, the choices of a walk from there begin
  pub begins_there : {walk : Course} {there : State} → Went trail.image here at walk there → (walk.start ≡ reached at trail) × (walk.start.applied ≡ trail.start.applied + at)
  begins_there w = let none = ap (λ (e : Ended). e.applied) s.begins in let count = ap (λ (e : Ended). e.applied) w.begins in (w.begins ∙ sym reached_here, omega (arith, none, count))

  -- choices that were made from the position on stand in the place of those behind it
  pub session_made : {walk new : Course} {to : ℕ} {there : State} → Went trail.image here at walk there → new ≡ record trail { choices = take at trail.choices ++ walk.choices } → to ≡ length new.choices
      → IsSession new to there
  session_made {walk} {new} {to} {there} w is whole =
      let front = take at trail.choices in
      let choices : List Choice = front ++ walk.choices in
      let start = trail.start.world in
      let joined : IsSession (record trail { choices = choices }) (length choices) there = record {
        begins = s.begins;
        within = omega arith;
        made = enabled_both trail.image front walk.choices start (enabled_take trail.image at trail.choices start s.made) (subst (λ (v : State). all_enabled trail.image walk.choices v ≡ true) s.shown w.made);
        shown = w.shown ∙ ap (led trail.image walk.choices) s.shown ∙ sym (led-append trail.image front walk.choices start)
            ∙ ap (λ (cs : List Choice). led trail.image cs start) (sym (take_all (length choices) choices (omega arith)));
      } in
      transport (λ i. IsSession (sym is i) (sym (whole ∙ ap (λ (c : Course). length c.choices) is) i) there) joined

  -- where it goes
  pub session_gone : (walk : Course) (given : List Choice) {new : Course} {to : ℕ} {h : History} {places : PlaceSet} {stop : Stop} → history trail at places ≡ h
      → walked trail.image places given here ≡ (walk.choices, stop) → GoTakes given h
      → new ≡ record trail { choices = take at trail.choices ++ walk.choices } → to ≡ length new.choices → gone given h ≡ (history new to places, stop)
  session_gone walk given {h = h} {places = places} {stop = stop} view_is told takes is whole =
      let there_told = sym (seen_there (λ i ps w. walked i ps given w) refl view_is) ∙ told in
      let made_is =
      ap (with_made walk.choices) (sym view_is)
      ∙ some_made (history trail at places) walk.choices (λ none. takes (ap (λ (k : List Choice × Stop). k.0) there_told ∙ none)) s.within
      ∙ (λ i. history (sym is i) (sym (whole ∙ ap (λ (c : Course). length c.choices) is) i) places)
      in
      ap (went h) there_told ∙ (λ i. (made_is i, stop))
    where
      some_made : (g : History) (made : List Choice) → made ≢ [] → g.at ≤ length g.choices → with_made made g ≡ record g { choices = behind g ++ made; at = length (behind g ++ made) }
      some_made g [] some within = absurd (some refl)
      some_made g (choice ∷ more) some within =
          ap (λ n. record g { choices = behind g ++ choice ∷ more; at = n }) (sym (length-append (behind g) (choice ∷ more) ∙ ap (λ n. n + length (choice ∷ more)) (length-take-le g.at g.choices within)))

-- why a session goes no further
pub gone_nowhere : (h : History) (choices : List Choice) {w : State} {why : Option Stop} {stop : Stop} → w ≡ world_of h → why ≡ stop_at_once choices w → why ≡ Some stop → gone choices h ≡ (h, stop)
gone_nowhere h choices {stop = stop} shown is found = ap (went h) (walked_none h.image h.places choices (world_of h) stop (ap (stop_at_once choices) (sym shown) ∙ sym is ∙ found))

pub goes_on : (h : History) (choices : List Choice) {w : State} {why : Option Stop} → w ≡ world_of h → why ≡ stop_at_once choices w → why ≡ None → GoTakes choices h
goes_on h choices shown is found = walked_some h.image h.places choices (world_of h) (ap (stop_at_once choices) (sym shown) ∙ sym is ∙ found)

-- one choice that is not refused
pub step_takes : (h : History) (choice : Choice) → refusal (world_of h) choice ≡ None → GoTakes (choice ∷ []) h
step_takes h choice free = walked_some h.image h.places (choice ∷ []) (world_of h) (unrefused choice (world_of h) free)

pub stepped_is : (h : History) (choice : Choice) {new : History} {stop : Stop} → refusal (world_of h) choice ≡ None → gone (choice ∷ []) h ≡ (new, stop) → stepped choice h ≡ Ok (new, tt)
stepped_is h choice {new} free is =
    let one = one_applied h.image h.places choice (world_of h) (unrefused choice (world_of h) free) in
    let made : with_made (choice ∷ []) h ≡ new = sym (ap (λ cs. with_made cs h) one) ∙ ap (λ (k : History × Stop). k.0) is in
    ap (λ why. or_refused why (with_made (choice ∷ []) h)) free ∙ (λ i. Ok (made i, tt))
