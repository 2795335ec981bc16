-- In each story an arrow begins where its signal was put, and a line where its process was spawned.
use Rattle.std.proofs.Common.{◌≡◌, ℕ, zero, suc, ◌+◌, ◌<◌, ◌⊎◌, inl, inr, List, [], ◌∷◌, ◌++◌, true, map, length, take, refl, sym, ap, subst, ◌∙◌, arith, append-nil}
use Rattle.std.specs.Prelude.{Option, Some, None, Ok, is_none, is_some, slice_get}
use Rattle.std.proofs.Math.Seq.{take-append_seam}
use Rattle.std.proofs.lemmas.List.{length-map, map-append, take-append-le}
use Rattle.std.proofs.lemmas.Option.{slice_get_within}
use Rattle.bx_share.proofs.Places.{get_more}
use Rattle.bx_terms.specs.declared.atom_table.AtomId.{AtomId}
use Rattle.bx_terms.specs.declared.kinds.Trap.{Trap}
use Rattle.bx_terms.specs.declared.places.Place.{Place}
use Rattle.bx_load.specs.Image.{Loaded, export}
use Rattle.bx_signals.specs.Channels.{waiting}
use Rattle.bx_signals.specs.Waiting.{first}
use Rattle.bx_signals.specs.declared.signal.Signal.{Signal}
use Rattle.bx_signals.proofs.Maps.{waiting_empty}
use Rattle.bx_world.specs.declared.choices.Choice.{Choice, TheVariants.Run, TheVariants.Deliver, TheVariants.Expire}
use Rattle.bx_world.specs.World.{Life, State, begun, begun_at}
use Rattle.bx_world.specs.Enabled.{able, actor, can, may_expire, may_run}
use Rattle.bx_world.specs.Changes.{after, signal_coming}
use Rattle.bx_world.specs.Choosing.{chosen}
use Rattle.bx_world.specs.Seen.{status_of}
use Rattle.std.proofs.lemmas.Bool.{and_parts}
use Rattle.bx_world.proofs.Commuting.{able_of, may_within}
use Rattle.bx_world.proofs.Confined.{chosen_confined}
use Rattle.bx_events.specs.declared.events.Effect.{Effect}
use Rattle.bx_events.specs.declared.events.Event.{Event}
use Rattle.bx_events.specs.declared.events.Lane.{Lane}
use Rattle.bx_events.specs.declared.events.Put.{Put}
use Rattle.bx_events.specs.declared.events.Sent.{Sent}
use Rattle.bx_events.specs.declared.events.Stands.TheVariants as stand
use Rattle.bx_events.specs.declared.events.What.{What}
use Rattle.bx_events.specs.declared.events.What.TheVariants as whats
use Rattle.bx_events.specs.declared.stories.Story.{Story}
use Rattle.bx_events.specs.Actors.{before_of, effect_of, heard, is_less, mail_of, stands_as, stands_in, stands_unless}
use Rattle.bx_events.specs.Births.{FoundNobody, HasPlace, IsBorn, is_lost, loses}
use Rattle.bx_events.specs.Flows.{IsFirst, IsPut, arrived_by, arrived_out, only_in, put_at, put_into}
use Rattle.bx_events.specs.Stories.{story}
use Rattle.bx_events.specs.Telling.{is_run, puts_nothing, told, what_of}
use Rattle.bx_events.proofs.Flowing.{Flow, IsCounted, arrived_more, counted_get, get_either, is_put, left_over, put_more}
use Rattle.bx_events.proofs.Lined.{Lined, has_place, lane_born, lane_count, lined_less, lined_more, lined_start}
use Rattle.bx_events.proofs.Told.{Plain, in_told}
use Rattle.bx_events.proofs.Outlines.{arrived_same, calm, first_like, first_same, outline, outlined_at, put_same}
use Rattle.bx_events.proofs.Posted.{first_heard, flow_more}

-- ---- arrows

flow_like : (pair : ℕ × ℕ) (xs ys : List Event) (waits : List Signal) → put_into pair xs ≡ put_into pair ys → arrived_out pair xs ≡ arrived_out pair ys → Flow pair xs waits → Flow pair ys waits
flow_like pair xs ys waits put arrived flow = record {
  rest = flow.rest;
  flows = sym put ∙ flow.flows ∙ ap (λ zs. zs ++ flow.rest) arrived;
  signals = flow.signals;
  counted = subst (IsCounted pair 0) put flow.counted;
}

abbrev ArrivesFirst : List Event → ℕ → Event → Type 0
ArrivesFirst events row event = (sent : Sent) (effect : Effect) → event.what ≡ whats.Arrived sent effect → (sent.to ≡ event.actor) × IsFirst (sent.from, sent.to) (take row events) sent

record Matched (events : List Event) (w : State) : Type 0 where
  flow : (pair : ℕ × ℕ) → Flow pair events (waiting w.lanes.channels pair)
  firsts : (row : ℕ) (event : Event) → slice_get events row ≡ Some event → ArrivesFirst events row event

-- the rows before one that was there are the same behind one event more
first_in : (events : List Event) (event other : Event) (row : ℕ) → slice_get events row ≡ Some event → take row (events ++ other ∷ []) ≡ take row events
first_in events event other row at = let within = slice_get_within events row event at in take-append-le row events (other ∷ []) (omega (arith, within))

matched_more : (image : Loaded) (n : ℕ) (c : Choice) (events : List Event) (w : State) → can w c ≡ true → Matched (map outline events) w → Matched (map outline events ++ outline (told image n c events w) ∷ []) (chosen image c w)
matched_more image n c events w may matched = record { flow = flow_on; firsts = each }
  where
    flow_real : (pair : ℕ × ℕ) → Flow pair events (waiting w.lanes.channels pair)
    flow_real pair = flow_like pair (map outline events) events (waiting w.lanes.channels pair) (put_same pair 0 events) (arrived_same pair events) (matched.flow pair)

    flow_on : (pair : ℕ × ℕ) → Flow pair (map outline events ++ outline (told image n c events w) ∷ []) (waiting (chosen image c w).lanes.channels pair)
    flow_on pair =
        flow_like pair (events ++ told image n c events w ∷ []) (map outline events ++ outline (told image n c events w) ∷ []) (waiting (chosen image c w).lanes.channels pair)
        (sym (put_same pair 0 (events ++ told image n c events w ∷ [])) ∙ ap (put_into pair) (map-append outline events (told image n c events w ∷ [])))
        (sym (arrived_same pair (events ++ told image n c events w ∷ [])) ∙ ap (arrived_out pair) (map-append outline events (told image n c events w ∷ [])))
        (flow_more image n c events w pair (able_of w c may) (flow_real pair))

    new : (row : ℕ) (k : ℕ) (here : Event) → row ≡ length (map outline events) + k → slice_get (outline (told image n c events w) ∷ []) k ≡ Some here → ArrivesFirst (map outline events ++ outline (told image n c events w) ∷ []) row here
    new row (suc k) here is at sent effect e = let no : ⊥ = cc in absurd no
    new row zero here is at sent effect e =
        let same : outline (told image n c events w) ≡ here = cc in
        let start : take row (map outline events ++ outline (told image n c events w) ∷ []) ≡ map outline events =
        ap (λ m. take m (map outline events ++ outline (told image n c events w) ∷ [])) (omega (arith, is)) ∙ take-append_seam (map outline events) (outline (told image n c events w) ∷ []) in
        let found = first_heard image n c events w sent effect (able_of w c may) flow_real (ap (λ (x : Event). x.what) same ∙ e) in
        (found.0 ∙ ap (λ (x : Event). x.actor) same, subst (λ xs. IsFirst (sent.from, sent.to) xs sent) (sym start) (first_like (sent.from, sent.to) events (map outline events) sent (sym (put_same (sent.from, sent.to) 0 events)) (sym (arrived_same (sent.from, sent.to) events)) found.1))

    old : (row : ℕ) (here : Event) → slice_get (map outline events) row ≡ Some here → ArrivesFirst (map outline events ++ outline (told image n c events w) ∷ []) row here
    old row here at sent effect e =
        let found = matched.firsts row here at sent effect e in
        (found.0, subst (λ xs. IsFirst (sent.from, sent.to) xs sent) (sym (first_in (map outline events) here (outline (told image n c events w)) row at)) found.1)

    each : (row : ℕ) (here : Event) → slice_get (map outline events ++ outline (told image n c events w) ∷ []) row ≡ Some here → ArrivesFirst (map outline events ++ outline (told image n c events w) ∷ []) row here
    each row here at = elim (get_either (map outline events) (outline (told image n c events w) ∷ []) row here at) [ inl h ↦ old row here h | inr there ↦ new row there.0 here there.1 there.2 ]

-- runs that concern nobody else put nothing, and nothing arrives
puts_none : (pair : ℕ × ℕ) (p row : ℕ) (puts : List Put) → puts_nothing puts ≡ true → put_at pair p row puts ≡ []
puts_none pair p row [] e = refl
puts_none pair p row (put ∷ more) e = cc

none_arrives : (pair : ℕ × ℕ) (what : What) → is_run what ≡ true → arrived_by pair what ≡ []
none_arrives pair whats.Ran e = refl
none_arrives pair _ e = cc

matched_less : (events : List Event) (event : Event) (w : State) → Plain event → Matched (events ++ outline event ∷ []) w → Matched events w
matched_less events event w plain matched = record {
  flow = λ pair. flow_like pair (events ++ outline event ∷ []) events (waiting w.lanes.channels pair)
      (put_more pair 0 events (outline event) ∙ ap (λ xs. put_into pair events ++ xs) (puts_none pair event.actor (0 + length events) event.puts plain.quiet) ∙ append-nil (put_into pair events))
      (arrived_more pair events (outline event) ∙ ap (λ xs. arrived_out pair events ++ xs) (none_arrives pair event.what plain.runs) ∙ append-nil (arrived_out pair events)) (matched.flow pair);
  firsts = λ row here at sent effect e. earlier row here at (matched.firsts row here (get_more events (outline event ∷ []) row here at)) sent effect e;
}
  where
    earlier : (row : ℕ) (here : Event) → slice_get events row ≡ Some here → ArrivesFirst (events ++ outline event ∷ []) row here → ArrivesFirst events row here
    earlier row here at h sent effect e = let found = h sent effect e in (found.0, subst (λ xs. IsFirst (sent.from, sent.to) xs sent) (first_in events here (outline event) row at) found.1)

-- ---- from the start

begun_from : (o : Option Place) (w : State) → begun_at o ≡ Ok w → (place : Place) × (begun place ≡ w)
begun_from None w e = cc
begun_from (Some place) w e = (place, cc)

matched_start : (w : State) (place : Place) → begun place ≡ w → Matched [] w
matched_start w place is = record {
  flow = λ pair. record { rest = []; flows = refl; signals = sym (waiting_empty pair) ∙ ap (λ (v : State). waiting v.lanes.channels pair) is; counted = tt };
  firsts = λ row event at. cc;
}

abbrev ArrowsOf : Story → Type 0
ArrowsOf s =
    ((row : ℕ) (event : Event) → slice_get s.events row ≡ Some event → ArrivesFirst s.events row event) × ((pair : ℕ × ℕ) → put_into pair s.events ≡ arrived_out pair s.events ++ only_in pair s.waiting)
    × ((pair : ℕ × ℕ) (n : ℕ) (sent : Sent) → slice_get (put_into pair s.events) n ≡ Some sent → sent.number ≡ n + 1)

flow_in : (events : List Event) (w : State) → Matched (map outline events) w → (pair : ℕ × ℕ) → Flow pair events (waiting w.lanes.channels pair)
flow_in events w matched pair = flow_like pair (map outline events) events (waiting w.lanes.channels pair) (put_same pair 0 events) (arrived_same pair events) (matched.flow pair)

first_of_all : (events : List Event) (w : State) → Matched (map outline events) w → (row : ℕ) (event : Event) → slice_get events row ≡ Some event → ArrivesFirst events row event
first_of_all events w matched row event at sent effect e =
    let found = matched.firsts row (outline event) (outlined_at row events event at) sent effect e in (found.0, first_same (sent.from, sent.to) row events sent found.1)

arrows : (image : Loaded) (m f : AtomId) (choices : List Choice) (s : Story) → story image m f choices ≡ Ok s → ArrowsOf s
arrows image m f choices s =
    in_told Matched image (matched_more image) matched_less ArrowsOf m f choices s (λ w is. let from = begun_from (export image m f 0) w is in matched_start w from.0 from.1)
    (λ t matched. (
      first_of_all t.events t.end.world matched,
      λ pair. left_over pair t.events t.end.world.lanes.channels (flow_in t.events t.end.world matched pair),
      λ pair n sent at. let count : 0 + n + 1 ≡ n + 1 = omega arith in (counted_get pair 0 n (put_into pair t.events) sent (flow_in t.events t.end.world matched pair).counted at).2 ∙ count,
    ))

pub each_is_first : (image : Loaded) (m f : AtomId) (choices : List Choice) (s : Story) (row : ℕ) (event : Event) (sent : Sent) (effect : Effect) → story image m f choices ≡ Ok s → slice_get s.events row ≡ Some event
    → event.what ≡ whats.Arrived sent effect → (sent.to ≡ event.actor) × IsPut (take row s.events) sent × IsFirst (sent.from, sent.to) (take row s.events) sent
each_is_first image m f choices s row event sent effect is at e =
    let found = (arrows image m f choices s is).0 row event at sent effect e in (found.0, is_put (sent.from, sent.to) (take row s.events) sent found.1, found.1)

pub all_are_left : (image : Loaded) (m f : AtomId) (choices : List Choice) (s : Story) (pair : ℕ × ℕ) → story image m f choices ≡ Ok s → put_into pair s.events ≡ arrived_out pair s.events ++ only_in pair s.waiting
all_are_left image m f choices s pair is = (arrows image m f choices s is).1 pair

pub all_are_counted : (image : Loaded) (m f : AtomId) (choices : List Choice) (s : Story) (pair : ℕ × ℕ) (n : ℕ) (sent : Sent) → story image m f choices ≡ Ok s → slice_get (put_into pair s.events) n ≡ Some sent → sent.number ≡ n + 1
all_are_counted image m f choices s pair n sent is at = (arrows image m f choices s is).2 pair n sent at

-- ---- lines

no_trap : (o : Option (Trap × ℕ)) → is_none o ≡ true → o ≡ None
no_trap None e = refl
no_trap (Some trap) e = cc

-- a signal for nobody
nobody_heard : (image : Loaded) (n p q : ℕ) (events : List Event) (w : State) → can w (Deliver p q) ≡ true → slice_get w.processes q ≡ None → FoundNobody (outline (told image n (Deliver p q) events w))
nobody_heard image n p q events w may none = go (first (waiting w.lanes.channels (p, q))) refl (able_of w (Deliver p q) may)
  where
    go : (o : Option Signal) → first (waiting w.lanes.channels (p, q)) ≡ o → is_some o ≡ true → FoundNobody (outline (told image n (Deliver p q) events w))
    go None at some = cc
    go (Some s) at some =
        let free : w.trap ≡ None = no_trap w.trap (and_parts (is_none w.trap) (able (Deliver p q) w.processes w.lanes) may).0 in
        let same : chosen image (Deliver p q) w ≡ after (Deliver p q) w (signal_coming p None (Some s)) = λ i. after (Deliver p q) w (signal_coming p (none i) (at i)) in
        let absent : stands_in q (chosen image (Deliver p q) w) ≡ stand.Absent = ap (stands_in q) same ∙ ap stands_as none in
        let was_absent : stands_in q w ≡ stand.Absent = λ i. stands_unless (free i) (none i) in (
          ap calm absent,
          ap (λ o. loses (what_of q events (heard p o) (before_of (Deliver p q) w) (mail_of (slice_get (chosen image (Deliver p q) w).processes q)) (stands_in q (chosen image (Deliver p q) w)))) at
              ∙ (λ i. is_lost (effect_of (was_absent i) s (is_less (mail_of (slice_get w.processes q)) (mail_of (slice_get (chosen image (Deliver p q) w).processes q))) (absent i))),
        )

has_lane : (image : Loaded) (n : ℕ) (c : Choice) (events : List Event) (w : State) → can w c ≡ true → (actor c < length w.processes) ⊎ FoundNobody (outline (told image n c events w))
has_lane image n (Run p) events w may = inl (may_within may_run w p (able_of w (Run p) may))
has_lane image n (Expire p) events w may = inl (may_within may_expire w p (able_of w (Expire p) may))
has_lane image n (Deliver p q) events w may = go (slice_get w.processes q) refl
  where
    go : (o : Option Life) → slice_get w.processes q ≡ o → (q < length w.processes) ⊎ FoundNobody (outline (told image n (Deliver p q) events w))
    go None at = inr (nobody_heard image n p q events w may at)
    go (Some life) at = inl (slice_get_within w.processes q life at)

abbrev LinedIn : List Event → State → Type 0
LinedIn events w = Lined events (length w.processes)

lined_on : (image : Loaded) (n : ℕ) (c : Choice) (events : List Event) (w : State) → can w c ≡ true → LinedIn (map outline events) w → LinedIn (map outline events ++ outline (told image n c events w) ∷ []) (chosen image c w)
lined_on image n c events w may lined =
    let confined = chosen_confined image c w in
    lined_more (map outline events) (outline (told image n c events w)) (length w.processes) (length (chosen image c w).processes) lined refl confined.0 confined.1 (has_lane image n c events w may)

no_child : (o : Option ℕ) → is_none o ≡ true → o ≡ None
no_child None e = refl
no_child (Some child) e = cc

lined_back : (events : List Event) (event : Event) (w : State) → Plain event → LinedIn (events ++ outline event ∷ []) w → LinedIn events w
lined_back events event w plain lined = lined_less events (outline event) (length w.processes) (no_child event.child plain.alone) lined

abbrev LinesOf : Story → Type 0
LinesOf s =
    ((p : ℕ) (lane : Lane) → slice_get s.lanes p ≡ Some lane → IsBorn s.events p lane.born) × ((row : ℕ) (event : Event) → slice_get s.events row ≡ Some event → HasPlace s.lanes row event)
    × (length s.lanes ≡ length s.outcome.statuses)

lines : (image : Loaded) (m f : AtomId) (choices : List Choice) (s : Story) → story image m f choices ≡ Ok s → LinesOf s
lines image m f choices s =
    in_told LinedIn image (lined_on image) lined_back LinesOf m f choices s (λ w is. let from = begun_from (export image m f 0) w is in subst (LinedIn []) from.1 lined_start)
    (λ t lined. (
      lane_born t.events (length t.end.world.processes) lined,
      has_place t.events (length t.end.world.processes) lined,
      lane_count t.events (length t.end.world.processes) lined ∙ sym (length-map t.end.world.processes status_of),
    ))

pub begins_at_birth : (image : Loaded) (m f : AtomId) (choices : List Choice) (s : Story) (p : ℕ) (lane : Lane) → story image m f choices ≡ Ok s → slice_get s.lanes p ≡ Some lane → IsBorn s.events p lane.born
begins_at_birth image m f choices s p lane is at = (lines image m f choices s is).0 p lane at

pub each_has_place : (image : Loaded) (m f : AtomId) (choices : List Choice) (s : Story) (row : ℕ) (event : Event) → story image m f choices ≡ Ok s → slice_get s.events row ≡ Some event → HasPlace s.lanes row event
each_has_place image m f choices s row event is at = (lines image m f choices s is).1 row event at

pub one_for_each : (image : Loaded) (m f : AtomId) (choices : List Choice) (s : Story) → story image m f choices ≡ Ok s → length s.lanes ≡ length s.outcome.statuses
one_for_each image m f choices s is = (lines image m f choices s is).2
