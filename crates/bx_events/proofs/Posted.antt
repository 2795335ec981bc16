-- What a choice puts into a channel and takes out of it, as its event tells it.
use Rattle.std.proofs.Common.{◌≡◌, ℕ, ◌+◌, ◌==◌, List, [], ◌∷◌, ◌++◌, ◌⊎◌, inl, inr, Bool, true, false, cond, map, length, refl, sym, ap, subst, ◌∙◌, arith, append-nil, append_assoc}
use Rattle.std.specs.Prelude.{Option, Some, None, Result, Ok, Err, ◌&&◌, is_some, if◌then◌else◌, slice_get}
use Rattle.std.specs.FinMap as finite
use Rattle.std.proofs.lemmas.Bool.{cases_Bool}
use Rattle.std.proofs.lemmas.List.{map-append}
use Rattle.bx_terms.specs.declared.kinds.Trap.{Trap}
use Rattle.bx_terms.specs.Tree.{Tree}
use Rattle.bx_load.specs.Image.{Loaded}
use Rattle.bx_signals.specs.Waiting.{first}
use Rattle.bx_signals.specs.Channels.{Channels, put, waiting}
use Rattle.bx_signals.specs.declared.signal.Signal.{Signal}
use Rattle.bx_signals.proofs.Maps.{equal_pair, waiting_empty, waiting_same, waiting_with}
use Rattle.bx_proc.specs.Process.{Process}
use Rattle.bx_world.specs.declared.choices.Choice.{Choice, TheVariants.Run, TheVariants.Deliver, TheVariants.Expire}
use Rattle.bx_world.specs.declared.turns.Turn.{Turn}
use Rattle.bx_world.specs.declared.turns.Turn.TheVariants as turns
use Rattle.bx_world.specs.World.{Life, Live, Exited, State}
use Rattle.bx_world.specs.Enabled.{able, actor}
use Rattle.bx_world.specs.Changes.{Change, Coming, after, apply, coming, signal_change, signal_coming, turned_to}
use Rattle.bx_world.specs.Choosing.{bare, chosen, put_alone}
use Rattle.bx_world.specs.Deeds.{Deed, Posts, signalled}
use Rattle.bx_world.specs.Posting.{first_of, in_channel, put_by, same_pair, taken_by}
use Rattle.bx_world.proofs.Applying.{ComesAs, comes_as}
use Rattle.bx_world.proofs.Arriving.{came}
use Rattle.bx_world.proofs.Deeds.{Quiet, plain}
use Rattle.bx_events.specs.declared.actors.Met.TheVariants as meets
use Rattle.bx_events.specs.declared.events.Effect.{Effect}
use Rattle.bx_events.specs.declared.events.Event.{Event}
use Rattle.bx_events.specs.declared.events.Sent.{Sent}
use Rattle.bx_events.specs.declared.events.Stands.{Stands}
use Rattle.bx_events.specs.declared.events.What.{What}
use Rattle.bx_events.specs.declared.events.What.TheVariants as whats
use Rattle.bx_events.specs.Actors.{before_of, effect_at, effect_of, exit_effect, heard, is_less, mail_of, next_of, run_was, stands_as, stands_in}
use Rattle.bx_events.specs.Flows.{IsFirst, arrived_by, arrived_out, put_at, put_into}
use Rattle.bx_events.specs.Pairing.{next_sent, senders, takes}
use Rattle.bx_events.specs.Telling.{alone, puts_of, told, what_of}
use Rattle.bx_events.proofs.Flowing.{Flow, IsCounted, arrived_more, counted_append, counted_as, head_of, put_more, puts_are, senders_count, sent_as, signals_as}

-- ---- a signal that does not trap is taken

abbrev Takes : Result Change Trap → Type 0
Takes (Ok made) = made.takes ≡ true
Takes (Err kind) = Unit {0}

turn_takes : (x : Process) (d : Deed) (turn : Turn) → Quiet x turn d → Takes (turned_to turn None d)
turn_takes x d turns.Ran quiet = quiet.1
turn_takes x d (turns.Ended reason) quiet = quiet
turn_takes x d (turns.Trapped kind) quiet = tt
turn_takes x d (turns.Spawns spawn) quiet = quiet.1

signal_takes : (p : ℕ) (o : Option Life) (s : Signal) → Takes (signal_change p o s)
signal_takes p None s = refl
signal_takes p (Some (Exited reason)) s = refl
signal_takes p (Some (Live x)) s = turn_takes x (signalled p x s) (signalled p x s).turn (plain p x s).quiet

delivery_takes : (p : ℕ) (o : Option Life) (s : Option Signal) (made : Change) → signal_coming p o s ≡ Ok (Ok made) → made.takes ≡ true
delivery_takes p o None made e = cc
delivery_takes p o (Some s) made e = let same : signal_change p o s ≡ Ok made = cc in subst Takes same (signal_takes p o s)

-- ---- where nothing else is on its way, what waits was put

same_rest : (x y : Signal) (xs ys : List Signal) → x ∷ xs ≡ y ∷ ys → xs ≡ ys
same_rest x y xs ys e = cc

module _ (p q : ℕ) (s : Signal) where
  abbrev sole : Channels Signal
  sole = put (p, q) s finite.empty

  sole_here : waiting sole (p, q) ≡ s ∷ []
  sole_here = waiting_same p q (waiting finite.empty (p, q) ++ s ∷ []) finite.empty ∙ ap (λ ss. ss ++ s ∷ []) (waiting_empty (p, q))

  sole_waits : (k : ℕ × ℕ) → waiting sole k ≡ cond (same_pair k (p, q)) (s ∷ []) []
  sole_waits k =
      waiting_with (p, q) (waiting finite.empty (p, q) ++ s ∷ []) finite.empty k ∙ (λ i. cond (same_pair k (p, q)) (waiting_empty (p, q) i ++ s ∷ []) (waiting_empty k i))

  heard_alone : (made : Change) (w : State) (k : ℕ × ℕ) → made.takes ≡ true → w.lanes.channels ≡ sole → waiting (apply (Deliver p q) made w).lanes.channels k ≡ in_channel q k made.posts
  heard_alone made w k taken is =
      let all = ap (λ m. waiting m k ++ in_channel q k made.posts) (sym is)
      ∙ came (Deliver p q) w k (Ok (Ok made)) (ap (λ m. is_some (first (waiting m (p, q)))) is ∙ ap (λ ss. is_some (first ss)) sole_here)
      ∙ (λ i. first_of (Deliver p q) (taken i) k (is i) ++ waiting (apply (Deliver p q) made w).lanes.channels k) in
      elim (cases_Bool (same_pair k (p, q))) [
        | inl e ↦ sym (same_rest s s (in_channel q k made.posts) (waiting (apply (Deliver p q) made w).lanes.channels k) (rw (sole_waits k, e) at all))
        | inr e ↦ sym (rw (sole_waits k, e) at all)
      ]

none_sent : (a : ℕ) (k : ℕ × ℕ) (posts : Posts) → (k.0 == a) ≡ false → in_channel a k posts ≡ []
none_sent a k [] other = refl
none_sent a k (post ∷ more) other =
    ap (λ b. if (b && (k.1 == post.0)) then post.1 ∷ in_channel a k more else in_channel a k more) other ∙ none_sent a k more other

alone_waits : (image : Loaded) (c : Choice) (w : State) (made : Change) (k : ℕ × ℕ) → able c w.processes w.lanes ≡ true → coming image c w ≡ Ok (Ok made)
    → waiting (apply c made (bare c w)).lanes.channels k ≡ in_channel (actor c) k made.posts
alone_waits image (Run p) w made k may is = sym (came (Run p) (bare (Run p) w) k (Ok (Ok made)) may) ∙ ap (λ ss. ss ++ in_channel p k made.posts) (waiting_empty k)
alone_waits image (Expire p) w made k may is = sym (came (Expire p) (bare (Expire p) w) k (Ok (Ok made)) may) ∙ ap (λ ss. ss ++ in_channel p k made.posts) (waiting_empty k)
alone_waits image (Deliver p q) w made k may is = go (first (waiting w.lanes.channels (p, q))) refl may
  where
    taken : made.takes ≡ true
    taken = delivery_takes p (slice_get w.processes q) (first (waiting w.lanes.channels (p, q))) made is

    go : (o : Option Signal) → first (waiting w.lanes.channels (p, q)) ≡ o → is_some o ≡ true → waiting (apply (Deliver p q) made (bare (Deliver p q) w)).lanes.channels k ≡ in_channel q k made.posts
    go None at some = cc
    go (Some s) at some = heard_alone p q s made (bare (Deliver p q) w) k taken (ap (put_alone (Deliver p q)) at)

-- ---- one choice

module _ (image : Loaded) (c : Choice) (w : State) (events : List Event) (pair : ℕ × ℕ) (may : able c w.processes w.lanes ≡ true) where
  abbrev comes : Coming
  comes = coming image c w

  there : ComesAs true comes
  there = subst (λ b. ComesAs b (coming image c w)) may (comes_as image c w)

  puts_as : (row : ℕ) → put_at pair (actor c) row (puts_of (alone image c w) events) ≡ sent_as pair row (length (senders pair events)) (put_by c pair comes)
  puts_as row = go (coming image c w) refl there
    where
      go : (x : Coming) → coming image c w ≡ x → ComesAs true x → put_at pair (actor c) row (puts_of (after c (bare c w) x) events) ≡ sent_as pair row (length (senders pair events)) (put_by c pair x)
      go (Err fault) is h = absurd h
      go (Ok (Err kind)) is h = refl
      go (Ok (Ok made)) is h =
          puts_are pair (actor c) row events (apply c made (bare c w)).lanes.channels
          (λ k other. alone_waits image c w made k may is ∙ none_sent (actor c) k made.posts other)
          ∙ ap (sent_as pair row (length (senders pair events))) (alone_waits image c w made pair may is)

-- it takes nothing of the channel, or the first that waits there
abbrev Arrival : ℕ × ℕ → List Event → Channels Signal → List Signal → What → Type 0
Arrival pair events m taken what =
    ((taken ≡ []) × (arrived_by pair what ≡ []))
    ⊎ ((s : Signal) × (first (waiting m pair) ≡ Some s) × (taken ≡ s ∷ []) × (arrived_by pair what ≡ next_sent pair events s ∷ []))

by_exit : (more : Bool) (behind : Stands) → takes (exit_effect more behind) ≡ true
by_exit more behind = grind arith

by_any : (before : Stands) (s : Signal) (more : Bool) (behind : Stands) → takes (effect_at before s more behind) ≡ true
by_any before s more behind = grind (arith, by_exit)

no_trap : (before : Stands) (s : Signal) (more : Bool) (o : Option Life) → takes (effect_of before s more (stands_as o)) ≡ true
no_trap before s more o = grind (arith, by_any)

ran_nothing : (pair : ℕ × ℕ) (took : Bool) (next : Option Tree) → arrived_by pair (run_was took next) ≡ []
ran_nothing pair took next = grind arith

heard_as : (pair : ℕ × ℕ) (p q : ℕ) (events : List Event) (m : Channels Signal) (s : Signal) (took : Bool) (effect : Effect) → first (waiting m (p, q)) ≡ Some s → took ≡ true → takes effect ≡ true
    → Arrival pair events m (first_of (Deliver p q) took pair m) (whats.Arrived (next_sent (p, q) events s) effect)
heard_as pair p q events m s took effect at takes_it is_taken = elim (cases_Bool (same_pair pair (p, q))) [
  | inl e ↦ (
      let is : pair ≡ (p, q) = equal_pair pair (p, q) e in
      let here : first (waiting m pair) ≡ Some s = ap (λ k. first (waiting m k)) is ∙ at in
      inr (s, here, rw (takes_it, e, here), rw (is_taken, e) (ap (λ k. next_sent k events s ∷ []) (sym is))))
  | inr e ↦ inl (rw (takes_it, e), rw (is_taken, e))
]

arrives : (image : Loaded) (n : ℕ) (c : Choice) (events : List Event) (w : State) (pair : ℕ × ℕ) → able c w.processes w.lanes ≡ true
    → Arrival pair events w.lanes.channels (taken_by c pair w.lanes.channels (coming image c w)) (told image n c events w).what
arrives image n (Run p) events w pair may = inl (none (coming image (Run p) w), ran_nothing pair _ _)
  where
    none : (x : Coming) → taken_by (Run p) pair w.lanes.channels x ≡ []
    none (Ok (Ok made)) = refl
    none _ = refl
arrives image n (Expire p) events w pair may = inl (none (coming image (Expire p) w), refl)
  where
    none : (x : Coming) → taken_by (Expire p) pair w.lanes.channels x ≡ []
    none (Ok (Ok made)) = refl
    none _ = refl
arrives image n (Deliver p q) events w pair may = signal (first (waiting w.lanes.channels (p, q))) refl may
  where
    signal : (o : Option Signal) → first (waiting w.lanes.channels (p, q)) ≡ o → is_some o ≡ true
        → Arrival pair events w.lanes.channels (taken_by (Deliver p q) pair w.lanes.channels (signal_coming p (slice_get w.processes q) o))
        (what_of q events (heard p o) (before_of (Deliver p q) w) (mail_of (slice_get (after (Deliver p q) w (signal_coming p (slice_get w.processes q) o)).processes q)) (stands_in q (after (Deliver p q) w (signal_coming p (slice_get w.processes q) o))))
    signal None at some = cc
    signal (Some s) at some = change_is (signal_change p (slice_get w.processes q) s) (signal_takes p (slice_get w.processes q) s)
      where
        change_is : (r : Result Change Trap) → Takes r
            → Arrival pair events w.lanes.channels (taken_by (Deliver p q) pair w.lanes.channels (Ok r))
            (what_of q events (meets.Hears p s) (before_of (Deliver p q) w) (mail_of (slice_get (after (Deliver p q) w (Ok r)).processes q)) (stands_in q (after (Deliver p q) w (Ok r))))
        change_is (Err kind) h = inl (refl, refl)
        change_is (Ok made) h =
            heard_as pair p q events w.lanes.channels s made.takes _ at h
            (no_trap (stands_in q w) s (is_less (mail_of (slice_get w.processes q)) (mail_of (slice_get (apply (Deliver p q) made w).processes q))) (slice_get (apply (Deliver p q) made w).processes q))

-- ---- a channel behind one choice more

module _ (image : Loaded) (n : ℕ) (c : Choice) (events : List Event) (w : State) (pair : ℕ × ℕ) (may : able c w.processes w.lanes ≡ true) (flow : Flow pair events (waiting w.lanes.channels pair)) where
  abbrev event : Event
  event = told image n c events w

  abbrev new : List Sent
  new = sent_as pair (0 + length events) (length (senders pair events)) (put_by c pair (coming image c w))

  put_is : put_into pair (events ++ event ∷ []) ≡ put_into pair events ++ new
  put_is = put_more pair 0 events event ∙ ap (λ xs. put_into pair events ++ xs) (puts_as image c w events pair may (0 + length events))

  new_counted : IsCounted pair 0 (put_into pair (events ++ event ∷ []))
  new_counted =
      let count : length (senders pair events) ≡ 0 + length (put_into pair events) = omega (arith, senders_count pair events) in
      subst (IsCounted pair 0) (sym put_is)
      (counted_append pair 0 (put_into pair events) new flow.counted (subst (λ m. IsCounted pair m new) count (counted_as pair (0 + length events) (length (senders pair events)) (put_by c pair (coming image c w)))))

  rests : (rest : List Sent) (arrived : List Sent) (behind : List Signal) → put_into pair events ≡ (arrived_out pair events ++ arrived) ++ rest → arrived_by pair event.what ≡ arrived
      → map (λ (s : Sent). s.signal) rest ++ put_by c pair (coming image c w) ≡ waiting (chosen image c w).lanes.channels pair → Flow pair (events ++ event ∷ []) (waiting (chosen image c w).lanes.channels pair)
  rests rest arrived behind is came_is waits = record {
    rest = rest ++ new;
    flows = put_is ∙ ap (λ xs. xs ++ new) is ∙ append_assoc (arrived_out pair events ++ arrived) rest new
        ∙ ap (λ xs. xs ++ (rest ++ new)) (sym (arrived_more pair events event ∙ ap (λ xs. arrived_out pair events ++ xs) came_is));
    signals = map-append (λ (s : Sent). s.signal) rest new ∙ ap (λ ss. map (λ (s : Sent). s.signal) rest ++ ss) (signals_as pair (0 + length events) (length (senders pair events)) (put_by c pair (coming image c w))) ∙ waits;
    counted = new_counted;
  }

  pub flow_more : Flow pair (events ++ event ∷ []) (waiting (chosen image c w).lanes.channels pair)
  flow_more = go (arrives image n c events w pair may)
    where
      balance : waiting w.lanes.channels pair ++ put_by c pair (coming image c w) ≡ taken_by c pair w.lanes.channels (coming image c w) ++ waiting (chosen image c w).lanes.channels pair
      balance = came c w pair (coming image c w) may

      go : Arrival pair events w.lanes.channels (taken_by c pair w.lanes.channels (coming image c w)) event.what → Flow pair (events ++ event ∷ []) (waiting (chosen image c w).lanes.channels pair)
      go (inl (taken, arrived)) =
          rests flow.rest [] [] (flow.flows ∙ ap (λ xs. xs ++ flow.rest) (sym (append-nil (arrived_out pair events)))) arrived
          (ap (λ ss. ss ++ put_by c pair (coming image c w)) flow.signals ∙ balance ∙ ap (λ ss. ss ++ waiting (chosen image c w).lanes.channels pair) taken)
      go (inr (s, at, taken, arrived)) =
          let head = head_of pair events (waiting w.lanes.channels pair) s flow at in
          rests head.0 (next_sent pair events s ∷ []) [] (head.1 ∙ sym (append_assoc (arrived_out pair events) (next_sent pair events s ∷ []) head.0)) arrived
          (same_rest s s (map (λ (s : Sent). s.signal) head.0 ++ put_by c pair (coming image c w)) (waiting (chosen image c w).lanes.channels pair)
          (ap (λ ss. ss ++ put_by c pair (coming image c w)) head.2 ∙ balance ∙ ap (λ ss. ss ++ waiting (chosen image c w).lanes.channels pair) taken))

-- a signal that arrives is the first of its channel
pub first_heard : (image : Loaded) (n : ℕ) (c : Choice) (events : List Event) (w : State) (sent : Sent) (effect : Effect) → able c w.processes w.lanes ≡ true → ((pair : ℕ × ℕ) → Flow pair events (waiting w.lanes.channels pair))
    → (told image n c events w).what ≡ whats.Arrived sent effect → (sent.to ≡ actor c) × IsFirst (sent.from, sent.to) events sent
first_heard image n (Run p) events w sent effect may flow is =
    absurd (never (is_less (mail_of (slice_get (chosen image (Run p) w).processes p)) (mail_of (slice_get w.processes p))) (next_of (slice_get w.processes p)) is)
  where
    never : (took : Bool) (next : Option Tree) → run_was took next ≡ whats.Arrived sent effect → ⊥
    never true (Some message) e = cc
    never _ _ e = cc
first_heard image n (Expire p) events w sent effect may flow is = cc
first_heard image n (Deliver p q) events w sent effect may flow is = go (first (waiting w.lanes.channels (p, q))) refl may is
  where
    go : (o : Option Signal) → first (waiting w.lanes.channels (p, q)) ≡ o → is_some o ≡ true
        → what_of q events (heard p o) (before_of (Deliver p q) w) (mail_of (slice_get (chosen image (Deliver p q) w).processes q)) (stands_in q (chosen image (Deliver p q) w)) ≡ whats.Arrived sent effect
        → (sent.to ≡ q) × IsFirst (sent.from, sent.to) events sent
    go None at some e = cc
    go (Some s) at some e =
        let same : next_sent (p, q) events s ≡ sent = cc in
        let head = head_of (p, q) events (waiting w.lanes.channels (p, q)) s (flow (p, q)) at in
        subst (λ (x : Sent). (x.to ≡ q) × IsFirst (x.from, x.to) events x) same (refl, (head.0, head.1))
