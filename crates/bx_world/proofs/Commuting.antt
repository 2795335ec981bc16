-- Choices of different actors, of which one at least is local, lead to the same world in both orders: their changes are the same in both.
use Rattle.bx_world.proofs.Words.{◌≡◌, ◌≢◌, ℕ, zero, suc, ◌<◌, List, [], ◌∷◌, ◌++◌, Bool, true, false, ◌⊎◌, inl, inr, Option, Some, None, Result, Ok, Err, length, refl, sym, ap, subst, ◌∙◌, arith, append_assoc}
use Rattle.bx_world.proofs.Words.{append-nil, length-append, length-set, ◌&&◌, ◌||◌, is_some, is_none, if◌then◌else◌, slice_get, slice_set, option_map, Tree, NotEnabled, Trap, Loaded, first, Channels}
use Rattle.bx_world.proofs.Words.{waiting, Signal, equal_pair, Process, can_run, can_expire, expired, attempted, Effect, to_itself, Choice, Run, Deliver, Expire, Turn, Life, Live, Exited, State, able, can, actor}
use Rattle.bx_world.proofs.Words.{may_at, may_run, may_expire, Posts, Deed, did, instruction, signalled, Coming, turned_to, run_turn, run_coming, signal_coming, expire_coming, change_of, heeds, coming, with_life}
use Rattle.bx_world.proofs.Words.{with_child, after, chosen, same_pair, in_channel, as_row, first_of, put_by, taken_by, behind, all_behind, is_local_at, runs_local, one_is_local, AreIndependent, IsLocal}
use Rattle.std.proofs.lemmas.Bool.{cases_eq, false_from_ne_true, and_parts}
use Rattle.std.proofs.lemmas.Option.{slice_get_within}
use Rattle.std.proofs.lemmas.List.{append_cancel_left}
use Rattle.bx_signals.proofs.Maps.{same_channels}
use Rattle.bx_signals.proofs.Turned.{same_everywhere}
use Rattle.bx_proc.specs.declared.parts.Effect.TheVariants as effects
use Rattle.bx_world.specs.declared.turns.Turn.TheVariants as turns
use Rattle.bx_world.specs.Seen.{place_at}
use Rattle.bx_world.specs.Sharing.{displayed}
use Rattle.bx_world.specs.Changes.{Change}
use Rattle.bx_world.specs.Independent.{IsNoRun}
use Rattle.bx_world.proofs.Arriving.{came}
use Rattle.bx_world.proofs.Applying.{ComesAs, comes_as}
use Rattle.bx_world.proofs.Confined.{got_here, get_set_other, chosen_confined}
use Rattle.bx_world.proofs.Deeds.{plain}
use Rattle.bx_world.proofs.Own.{attempt_own}

-- ---- two worlds in which a choice finds the same

pub record Finds (c : Choice) (w v : State) : Type 0 where
  pub life : slice_get w.processes (actor c) ≡ slice_get v.processes (actor c)
  pub signal : heeds c w.lanes.channels ≡ heeds c v.lanes.channels

pub able_alike : (c : Choice) (w v : State) → Finds c w v → able c w.processes w.lanes ≡ able c v.processes v.lanes
able_alike (Run p) w v finds = ap (may_at may_run) finds.life
able_alike (Deliver p q) w v finds = ap (λ o. is_some o) finds.signal
able_alike (Expire p) w v finds = ap (may_at may_expire) finds.life

module _ (image : Loaded) (c : Choice) (w v : State) (finds : Finds c w v) where
  among : (n : ℕ) → change_of image c (slice_get w.processes (actor c)) n (heeds c w.lanes.channels) ≡ change_of image c (slice_get v.processes (actor c)) n (heeds c v.lanes.channels)
  among n =
      ap (λ o. change_of image c o n (heeds c w.lanes.channels)) finds.life ∙ ap (change_of image c (slice_get v.processes (actor c)) n) finds.signal

  -- among as many processes its change is the same
  pub same_coming : length w.processes ≡ length v.processes → coming image c w ≡ coming image c v
  same_coming as_many =
      among (length w.processes) ∙ ap (λ n. change_of image c (slice_get v.processes (actor c)) n (heeds c v.lanes.channels)) as_many

-- ---- a local choice: it spawns nobody and displays nothing, and does the same among however many processes

abbrev Calm : Coming → Type 0
Calm (Ok (Ok made)) = (made.child ≡ None) × (made.shows ≡ None)
Calm (Ok (Err kind)) = Unit {0}
Calm (Err fault) = Unit {0}

calm_deed : (d : Deed) (turn : Turn) → d.shows ≡ None → Calm (Ok (turned_to turn None d))
calm_deed d turns.Ran h = (refl, h)
calm_deed d (turns.Ended reason) h = (refl, h)
calm_deed d (turns.Trapped kind) h = tt
calm_deed d (turns.Spawns spawn) h = (refl, h)

module _ (image : Loaded) (p : ℕ) (x : Process) where
  abbrev turn_among : Deed → ℕ → Result Change Trap
  turn_among d n = run_turn d.turn image p n x d

  local_turn : (n m : ℕ) (y : Process) (e : Effect) → to_itself e ≡ true
      → (turn_among (did image p x (y, e)) n ≡ turn_among (did image p x (y, e)) m) × Calm (Ok (turn_among (did image p x (y, e)) n))
  local_turn n m y effects.Ran own = (refl, (refl, refl))
  local_turn n m y (effects.Ended reason) own = (refl, (refl, refl))
  local_turn n m y (effects.Trap kind) own = (refl, tt)
  local_turn n m y (effects.Send to message) own = absurd (cc)
  local_turn n m y (effects.Ask native arguments) own = absurd (cc)

calm_if : (b : Bool) (r : Result Change Trap) → Calm (Ok r) → Calm (if b then Ok r else Err NotEnabled)
calm_if true r h = h
calm_if false r h = tt

-- the same among however many processes
local_among : (image : Loaded) (c : Choice) (w : State) → IsLocal image w c → (n m : ℕ)
    → change_of image c (slice_get w.processes (actor c)) n (heeds c w.lanes.channels) ≡ change_of image c (slice_get w.processes (actor c)) m (heeds c w.lanes.channels)
local_among image (Run p) w local n m = go (slice_get w.processes p) local
  where
    go : (o : Option Life) → is_local_at image (place_at o) ≡ true → run_coming image p n o ≡ run_coming image p m o
    go None h = refl
    go (Some (Exited reason)) h = refl
    go (Some (Live x)) h = ap (λ r. if can_run x then Ok r else Err NotEnabled) (local_turn image p x n m (attempted image p x).0 (attempted image p x).1 (attempt_own image p x h)).0
local_among image (Deliver p q) w local n m = refl
local_among image (Expire p) w local n m = refl

local_calm : (image : Loaded) (c : Choice) (w : State) → IsLocal image w c → Calm (coming image c w)
local_calm image (Run p) w local = go (slice_get w.processes p) local
  where
    go : (o : Option Life) → is_local_at image (place_at o) ≡ true → Calm (run_coming image p (length w.processes) o)
    go None h = tt
    go (Some (Exited reason)) h = tt
    go (Some (Live x)) h =
        calm_if (can_run x) (run_turn (instruction image p x).turn image p (length w.processes) x (instruction image p x))
        (local_turn image p x (length w.processes) 0 (attempted image p x).0 (attempted image p x).1 (attempt_own image p x h)).1
local_calm image (Deliver p q) w local = go (slice_get w.processes q) (heeds (Deliver p q) w.lanes.channels)
  where
    go : (o : Option Life) (s : Option Signal) → Calm (signal_coming p o s)
    go o None = tt
    go None (Some s) = (refl, refl)
    go (Some (Exited reason)) (Some s) = (refl, refl)
    go (Some (Live x)) (Some s) = let d = signalled p x s in calm_deed d d.turn (plain p x s).shows
local_calm image (Expire p) w local = go (slice_get w.processes p)
  where
    go : (o : Option Life) → Calm (expire_coming o)
    go None = tt
    go (Some (Exited reason)) = tt
    go (Some (Live x)) = calm_if (can_expire x) (Ok (record { life = Some (Live (expired x)); child = None; posts = []; takes = false; shows = None })) (refl, refl)

-- what is local stays so where its process does
local_again : (image : Loaded) (c : Choice) (w v : State) → Finds c w v → IsLocal image w c → IsLocal image v c
local_again image (Run p) w v finds local = ap (λ o. is_local_at image (place_at o)) (sym finds.life) ∙ local
local_again image (Deliver p q) w v finds local = tt
local_again image (Expire p) w v finds local = tt

pub local_coming : (image : Loaded) (c : Choice) (w v : State) → IsLocal image w c → Finds c w v → coming image c w ≡ coming image c v
local_coming image c w v local finds = local_among image c w local (length w.processes) (length v.processes) ∙ among image c w v finds (length v.processes)

-- ---- one change in two worlds

module _ {A : Type 0} where
  set_alike : (xs ys : List A) (p k : ℕ) (x : A) → slice_get xs k ≡ slice_get ys k → slice_get (slice_set xs p x) k ≡ slice_get (slice_set ys p x) k
  set_alike xs ys p k x h = one (cases_eq k p)
    where
      one : (k ≡ p) ⊎ (k ≢ p) → slice_get (slice_set xs p x) k ≡ slice_get (slice_set ys p x) k
      one (inl same) =
          let here = subst (λ n. slice_get xs n ≡ slice_get ys n) same h in
          subst (λ n. slice_get (slice_set xs p x) n ≡ slice_get (slice_set ys p x) n) (sym same) (got_here xs p x ∙ ap (option_map (λ z. x)) here ∙ sym (got_here ys p x))
      one (inr other) = get_set_other xs p k x other ∙ h ∙ sym (get_set_other ys p k x other)

  more_alike : (xs ys zs : List A) (k : ℕ) → length xs ≡ length ys → slice_get xs k ≡ slice_get ys k → slice_get (xs ++ zs) k ≡ slice_get (ys ++ zs) k
  more_alike [] [] zs k e h = refl
  more_alike [] (b ∷ ys) zs k e h = absurd (omega (arith, e))
  more_alike (a ∷ xs) [] zs k e h = absurd (omega (arith, e))
  more_alike (a ∷ xs) (b ∷ ys) zs zero e h = h
  more_alike (a ∷ xs) (b ∷ ys) zs (suc k) e h = more_alike xs ys zs k (omega (arith, e)) h

child_count : (child : Option Process) (xs ys : List Life) → length xs ≡ length ys → length (with_child child xs) ≡ length (with_child child ys)
child_count None xs ys e = e
child_count (Some x) xs ys e = omega (arith, e, length-append xs (Live x ∷ []), length-append ys (Live x ∷ []))

child_alike : (child : Option Process) (xs ys : List Life) (k : ℕ) → length xs ≡ length ys → slice_get xs k ≡ slice_get ys k → slice_get (with_child child xs) k ≡ slice_get (with_child child ys) k
child_alike None xs ys k e h = h
child_alike (Some x) xs ys k e h = more_alike xs ys (Live x ∷ []) k e h

life_count : (p : ℕ) (one : Option Life) (xs : List Life) → length (with_life p one xs) ≡ length xs
life_count p None xs = refl
life_count p (Some one) xs = length-set xs p one

life_alike : (p : ℕ) (one : Option Life) (xs ys : List Life) (k : ℕ) → slice_get xs k ≡ slice_get ys k → slice_get (with_life p one xs) k ≡ slice_get (with_life p one ys) k
life_alike p None xs ys k h = h
life_alike p (Some one) xs ys k h = set_alike xs ys p k one h

module _ (c : Choice) (w v : State) where
  after_count : (x : Coming) → length w.processes ≡ length v.processes → length (after c w x).processes ≡ length (after c v x).processes
  after_count (Ok (Ok made)) e =
      life_count (actor c) made.life (with_child made.child w.processes) ∙ child_count made.child w.processes v.processes e ∙ sym (life_count (actor c) made.life (with_child made.child v.processes))
  after_count (Ok (Err kind)) e = e
  after_count (Err fault) e = e

  after_alike : (x : Coming) (k : ℕ) → length w.processes ≡ length v.processes → slice_get w.processes k ≡ slice_get v.processes k → slice_get (after c w x).processes k ≡ slice_get (after c v x).processes k
  after_alike (Ok (Ok made)) k e h =
      life_alike (actor c) made.life (with_child made.child w.processes) (with_child made.child v.processes) k (child_alike made.child w.processes v.processes k e h)
  after_alike (Ok (Err kind)) k e h = h
  after_alike (Err fault) k e h = h

  after_shows : (x : Coming) → w.lanes.output ≡ v.lanes.output → (after c w x).lanes.output ≡ (after c v x).lanes.output
  after_shows (Ok (Ok made)) e = ap (displayed (actor c) made.shows) e
  after_shows (Ok (Err kind)) e = e
  after_shows (Err fault) e = e

  after_trap : (x : Coming) → ComesAs true x → (after c w x).trap ≡ (after c v x).trap
  after_trap (Ok (Ok made)) h = refl
  after_trap (Ok (Err kind)) h = refl
  after_trap (Err fault) h = absurd h

  -- of a local choice
  calm_here : (x : Coming) → Calm x → slice_get w.processes (actor c) ≡ slice_get v.processes (actor c) → slice_get (after c w x).processes (actor c) ≡ slice_get (after c v x).processes (actor c)
  calm_here (Ok (Ok made)) h same =
      ap (λ (o : Option Process). slice_get (with_life (actor c) made.life (with_child o w.processes)) (actor c)) h.0
      ∙ life_alike (actor c) made.life w.processes v.processes (actor c) same
      ∙ ap (λ (o : Option Process). slice_get (with_life (actor c) made.life (with_child o v.processes)) (actor c)) (sym h.0)
  calm_here (Ok (Err kind)) h same = same
  calm_here (Err fault) h same = same

-- a world after a choice that is local
pub record Kept (c : Choice) (w after : State) : Type 0 where
  pub count : length after.processes ≡ length w.processes
  pub others : (k : ℕ) → k ≢ actor c → slice_get after.processes k ≡ slice_get w.processes k
  pub output : after.lanes.output ≡ w.lanes.output

life_other : (p : ℕ) (one : Option Life) (xs : List Life) (k : ℕ) → k ≢ p → slice_get (with_life p one xs) k ≡ slice_get xs k
life_other p None xs k other = refl
life_other p (Some one) xs k other = get_set_other xs p k one other

kept : (c : Choice) (w : State) (x : Coming) → Calm x → Kept c w (after c w x)
kept c w (Ok (Ok made)) h =
    let p = actor c in
    record {
      count = life_count p made.life (with_child made.child w.processes) ∙ ap (λ (o : Option Process). length (with_child o w.processes)) h.0;
      others = λ k other. life_other p made.life (with_child made.child w.processes) k other ∙ ap (λ (o : Option Process). slice_get (with_child o w.processes) k) h.0;
      output = ap (λ (o : Option Tree). displayed p o w.lanes.output) h.1;
    }
kept c w (Ok (Err kind)) h = record { count = refl; others = λ k other. refl; output = refl }
kept c w (Err fault) h = record { count = refl; others = λ k other. refl; output = refl }

pub chosen_kept : (image : Loaded) (c : Choice) (w : State) → IsLocal image w c → Kept c w (chosen image c w)
chosen_kept image c w local = kept c w (coming image c w) (local_calm image c w local)

-- ---- what waits

other_sender : (pair own : ℕ × ℕ) → pair.0 ≢ own.0 → same_pair pair own ≡ false
other_sender pair own other = false_from_ne_true (same_pair pair own) (λ e. other (ap (λ (k : ℕ × ℕ). k.0) (equal_pair pair own e)))

other_receiver : (pair own : ℕ × ℕ) → pair.1 ≢ own.1 → same_pair pair own ≡ false
other_receiver pair own other = false_from_ne_true (same_pair pair own) (λ e. other (ap (λ (k : ℕ × ℕ). k.1) (equal_pair pair own e)))

-- a choice puts into its own process's channels alone
in_other : (p : ℕ) (pair : ℕ × ℕ) (posts : Posts) → pair.0 ≢ p → in_channel p pair posts ≡ []
in_other p pair [] other = refl
in_other p pair (post ∷ more) other = ap (λ b. if b then post.1 ∷ in_channel p pair more else in_channel p pair more) (other_sender pair (p, post.0) other) ∙ in_other p pair more other

puts_none : (c : Choice) (pair : ℕ × ℕ) (x : Coming) → pair.0 ≢ actor c → put_by c pair x ≡ []
puts_none c pair (Ok (Ok made)) other = in_other (actor c) pair made.posts other
puts_none c pair (Ok (Err kind)) other = refl
puts_none c pair (Err fault) other = refl

-- and takes from what waits for it alone
takes_none : (c : Choice) (pair : ℕ × ℕ) (m : Channels Signal) (x : Coming) → pair.1 ≢ actor c → taken_by c pair m x ≡ []
takes_none c pair m (Ok (Ok made)) other = one c made.takes other
  where
    one : (c : Choice) (takes : Bool) → pair.1 ≢ actor c → first_of c takes pair m ≡ []
    one (Run p) takes other = refl
    one (Deliver p q) true other = ap (λ b. if b then as_row (first (waiting m pair)) else []) (other_receiver pair (p, q) other)
    one (Deliver p q) false other = refl
    one (Expire p) takes other = refl
takes_none c pair m (Ok (Err kind)) other = refl
takes_none c pair m (Err fault) other = refl

if_same : (b : Bool) (xs ys : List Signal) → (b ≡ true → xs ≡ ys) → (if b then xs else []) ≡ (if b then ys else [])
if_same true xs ys same = same refl
if_same false xs ys same = refl

pub takes_alike : (c : Choice) (pair : ℕ × ℕ) (m n : Channels Signal) (x : Coming) → heeds c m ≡ heeds c n → taken_by c pair m x ≡ taken_by c pair n x
takes_alike c pair m n (Ok (Ok made)) signal = one c made.takes signal
  where
    one : (c : Choice) (takes : Bool) → heeds c m ≡ heeds c n → first_of c takes pair m ≡ first_of c takes pair n
    one (Run p) takes signal = refl
    one (Deliver p q) true signal =
        if_same (same_pair pair (p, q)) (as_row (first (waiting m pair))) (as_row (first (waiting n pair)))
        (λ e. let own = equal_pair pair (p, q) e in ap (λ k. as_row (first (waiting m k))) own ∙ ap as_row signal ∙ ap (λ k. as_row (first (waiting n k))) (sym own))
    one (Deliver p q) false signal = refl
    one (Expire p) takes signal = refl
takes_alike c pair m n (Ok (Err kind)) signal = refl
takes_alike c pair m n (Err fault) signal = refl

-- ---- one beside the other

pub able_of : (w : State) (c : Choice) → can w c ≡ true → able c w.processes w.lanes ≡ true
able_of w c h = (and_parts (is_none w.trap) (able c w.processes w.lanes) h).1

pub can_from : (w : State) (c : Choice) → w.trap ≡ None → able c w.processes w.lanes ≡ true → can w c ≡ true
can_from w c none h = ap (λ t. is_none t && able c w.processes w.lanes) none ∙ h

-- the same change traps in both worlds or in neither
pub trap_alike : (image : Loaded) (c : Choice) (w v : State) → can w c ≡ true → coming image c w ≡ coming image c v → (chosen image c w).trap ≡ (chosen image c v).trap
trap_alike image c w v enabled same =
    after_trap c w v (coming image c w) (subst (λ b. ComesAs b (coming image c w)) (able_of w c enabled) (comes_as image c w)) ∙ ap (λ x. (after c v x).trap) same

-- what waits for another stays first
module _ (image : Loaded) (c : Choice) (w : State) (enabled : can w c ≡ true) where
  pub first_stays : (pair : ℕ × ℕ) → pair.1 ≢ actor c → is_some (first (waiting w.lanes.channels pair)) ≡ true → first (waiting (chosen image c w).lanes.channels pair) ≡ first (waiting w.lanes.channels pair)
  first_stays pair other some =
      let x = coming image c w in
      ap first (sym (came c w pair x (able_of w c enabled) ∙ ap (λ ss. ss ++ waiting (after c w x).lanes.channels pair) (takes_none c pair w.lanes.channels x other)))
      ∙ front (waiting w.lanes.channels pair) (put_by c pair x) some
    where
      front : (xs ys : List Signal) → is_some (first xs) ≡ true → first (xs ++ ys) ≡ first xs
      front [] ys h = cc
      front (x ∷ xs) ys h = refl

-- what another choice finds behind one that leaves its process as it was
pub finds_again : (image : Loaded) (c d : Choice) (w : State) → slice_get (chosen image c w).processes (actor d) ≡ slice_get w.processes (actor d) → actor c ≢ actor d → can w c ≡ true → can w d ≡ true → Finds d w (chosen image c w)
finds_again image c d w stays apart enabled also = record {
  life = sym stays;
  signal = one d apart (able_of w d also);
} where
  one : (d : Choice) → actor c ≢ actor d → able d w.processes w.lanes ≡ true → heeds d w.lanes.channels ≡ heeds d (chosen image c w).lanes.channels
  one (Run p) other able_there = refl
  one (Deliver p q) other able_there = sym (first_stays image c w enabled (p, q) (λ e. other (sym e)) able_there)
  one (Expire p) other able_there = refl

-- rows of which one is empty are the same in both orders
either_order : (xs ys : List Signal) → (xs ≡ []) ⊎ (ys ≡ []) → xs ++ ys ≡ ys ++ xs
either_order xs ys (inl none) = ap (λ zs. zs ++ ys) none ∙ sym (append-nil ys) ∙ ap (λ zs. ys ++ zs) (sym none)
either_order xs ys (inr none) = ap (λ zs. xs ++ zs) none ∙ append-nil xs ∙ ap (λ zs. zs ++ xs) (sym none)

-- what waits behind both, from what each puts and takes
both_rows : (w wa wb wab wba pa pb ta tb : List Signal) → w ++ pa ≡ ta ++ wa → wa ++ pb ≡ tb ++ wab → w ++ pb ≡ tb ++ wb → wb ++ pa ≡ ta ++ wba
    → (pa ≡ []) ⊎ (pb ≡ []) → (ta ≡ []) ⊎ (tb ≡ []) → wab ≡ wba
both_rows w wa wb wab wba pa pb ta tb first second third fourth puts takes = append_cancel_left (ta ++ tb) wab wba (sym ahead ∙ turned ∙ behind) where
  ahead : w ++ (pa ++ pb) ≡ (ta ++ tb) ++ wab
  ahead =
      sym (append_assoc w pa pb) ∙ ap (λ xs. xs ++ pb) first ∙ append_assoc ta wa pb ∙ ap (λ xs. ta ++ xs) second ∙ sym (append_assoc ta tb wab)

  turned : w ++ (pa ++ pb) ≡ w ++ (pb ++ pa)
  turned = ap (λ xs. w ++ xs) (either_order pa pb puts)

  behind : w ++ (pb ++ pa) ≡ (ta ++ tb) ++ wba
  behind =
      sym (append_assoc w pb pa) ∙ ap (λ xs. xs ++ pa) third ∙ append_assoc tb wb pa ∙ ap (λ xs. tb ++ xs) fourth ∙ sym (append_assoc tb ta wba)
      ∙ ap (λ xs. xs ++ wba) (sym (either_order ta tb takes))

same_state : (w v : State) → w.processes ≡ v.processes → w.lanes.channels ≡ v.lanes.channels → w.lanes.output ≡ v.lanes.output → w.trap ≡ v.trap → w ≡ v
same_state w v processes channels output trap = λ i. record { processes = processes i; lanes = record { channels = channels i; output = output i }; trap = trap i }

-- two choices that are applied
pub one_then : (image : Loaded) (c d : Choice) (w : State) → can w c ≡ true → can (chosen image c w) d ≡ true → all_behind image (c ∷ d ∷ []) w ≡ chosen image d (chosen image c w)
one_then image c d w can_c can_d =
    ap (λ b. behind image d (if b then chosen image c w else w)) can_c ∙ ap (λ b. if b then chosen image d (chosen image c w) else chosen image c w) can_d

-- a process that may do something is there
pub may_within : (may : Life → Bool) (w : State) (p : ℕ) → may_at may (slice_get w.processes p) ≡ true → p < length w.processes
may_within may w p h = one (slice_get w.processes p) refl h where
  one : (o : Option Life) → slice_get w.processes p ≡ o → may_at may o ≡ true → p < length w.processes
  one None e k = cc
  one (Some life) e k = slice_get_within w.processes p life e

-- a choice that is local, and another behind it
module _ (image : Loaded) (a b : Choice) (w : State) (no_a : IsLocal image w a) (apart : actor a ≢ actor b) (can_a : can w a ≡ true) (can_b : can w b ≡ true) where
  flipped : actor b ≢ actor a
  flipped e = apart (sym e)

  a_kept : Kept a w (chosen image a w)
  a_kept = chosen_kept image a w no_a

  -- b behind a finds what it finds at first, so its change is the same
  b_finds : Finds b w (chosen image a w)
  b_finds = finds_again image a b w (a_kept.others (actor b) flipped) apart can_a can_b

  pub b_again : coming image b w ≡ coming image b (chosen image a w)
  b_again = same_coming image b w (chosen image a w) b_finds (sym a_kept.count)

  -- a life that a leaves as it is becomes the same by b
  pub b_alike : (k : ℕ) → slice_get w.processes k ≡ slice_get (chosen image a w).processes k → slice_get (chosen image b w).processes k ≡ slice_get (chosen image b (chosen image a w)).processes k
  b_alike k same =
      after_alike b w (chosen image a w) (coming image b w) k (sym a_kept.count) same ∙ ap (λ x. slice_get (after b (chosen image a w) x).processes k) b_again

  pub b_trap : (chosen image b w).trap ≡ (chosen image b (chosen image a w)).trap
  b_trap = trap_alike image b w (chosen image a w) can_b b_again

  module _ (a_runs : (chosen image a w).trap ≡ None) (b_runs : (chosen image b (chosen image a w)).trap ≡ None) where
    pub b_first : (chosen image b w).trap ≡ None
    b_first = b_trap ∙ b_runs

    b_enabled : can (chosen image a w) b ≡ true
    b_enabled = can_from (chosen image a w) b a_runs (sym (able_alike b w (chosen image a w) b_finds) ∙ able_of w b can_b)

    -- and in the other order, where the local one is local too, and sends and takes the same
    module _ (last_a : IsLocal image (chosen image b w) a) (a_enabled : can (chosen image b w) a ≡ true) (a_last : (chosen image a (chosen image b w)).trap ≡ None)
        (here : slice_get (chosen image b (chosen image a w)).processes (actor a) ≡ slice_get (chosen image a (chosen image b w)).processes (actor a))
        (sends : (pair : ℕ × ℕ) → put_by a pair (coming image a w) ≡ put_by a pair (coming image a (chosen image b w)))
        (takes : (pair : ℕ × ℕ) → taken_by a pair w.lanes.channels (coming image a w) ≡ taken_by a pair (chosen image b w).lanes.channels (coming image a (chosen image b w))) where
      a_after : Kept a (chosen image b w) (chosen image a (chosen image b w))
      a_after = chosen_kept image a (chosen image b w) last_a

      same_life : (k : ℕ) → slice_get (chosen image b (chosen image a w)).processes k ≡ slice_get (chosen image a (chosen image b w)).processes k
      same_life k = one (cases_eq k (actor a)) where
        one : (k ≡ actor a) ⊎ (k ≢ actor a) → slice_get (chosen image b (chosen image a w)).processes k ≡ slice_get (chosen image a (chosen image b w)).processes k
        one (inl e) = ap (slice_get (chosen image b (chosen image a w)).processes) e ∙ here ∙ ap (slice_get (chosen image a (chosen image b w)).processes) (sym e)
        one (inr other) = sym (b_alike k (sym (a_kept.others k other))) ∙ sym (a_after.others k other)

      b_count : length (chosen image b w).processes ≡ length (chosen image b (chosen image a w)).processes
      b_count = after_count b w (chosen image a w) (coming image b w) (sym a_kept.count) ∙ ap (λ x. length (after b (chosen image a w) x).processes) b_again

      b_output : (chosen image b w).lanes.output ≡ (chosen image b (chosen image a w)).lanes.output
      b_output = after_shows b w (chosen image a w) (coming image b w) (sym a_kept.output) ∙ ap (λ x. (after b (chosen image a w) x).lanes.output) b_again

      -- channel by channel
      same_row : (pair : ℕ × ℕ) → waiting (chosen image b (chosen image a w)).lanes.channels pair ≡ waiting (chosen image a (chosen image b w)).lanes.channels pair
      same_row pair =
          let x = coming image a w in
          let y = coming image b w in
          let va = chosen image a w in
          let vb = chosen image b w in
          both_rows (waiting w.lanes.channels pair) (waiting va.lanes.channels pair) (waiting vb.lanes.channels pair)
          (waiting (chosen image b va).lanes.channels pair) (waiting (chosen image a vb).lanes.channels pair)
          (put_by a pair x) (put_by b pair y) (taken_by a pair w.lanes.channels x) (taken_by b pair w.lanes.channels y)
          (came a w pair x (able_of w a can_a))
          (ap (λ z. waiting va.lanes.channels pair ++ put_by b pair z) b_again
          ∙ came b va pair (coming image b va) (able_of va b b_enabled)
          ∙ ap (λ ss. ss ++ waiting (chosen image b va).lanes.channels pair) (ap (taken_by b pair va.lanes.channels) (sym b_again) ∙ sym (takes_alike b pair w.lanes.channels va.lanes.channels y b_finds.signal)))
          (came b w pair y (able_of w b can_b))
          (ap (λ ss. waiting vb.lanes.channels pair ++ ss) (sends pair)
          ∙ came a vb pair (coming image a vb) (able_of vb a a_enabled)
          ∙ ap (λ ss. ss ++ waiting (chosen image a vb).lanes.channels pair) (sym (takes pair)))
          (puts_case (cases_eq pair.0 (actor a))) (takes_case (cases_eq pair.1 (actor a)))
        where
          puts_case : (pair.0 ≡ actor a) ⊎ (pair.0 ≢ actor a) → (put_by a pair (coming image a w) ≡ []) ⊎ (put_by b pair (coming image b w) ≡ [])
          puts_case (inl e) = inr (puts_none b pair (coming image b w) (λ f. apart (sym e ∙ f)))
          puts_case (inr other) = inl (puts_none a pair (coming image a w) other)

          takes_case : (pair.1 ≡ actor a) ⊎ (pair.1 ≢ actor a) → (taken_by a pair w.lanes.channels (coming image a w) ≡ []) ⊎ (taken_by b pair w.lanes.channels (coming image b w) ≡ [])
          takes_case (inl e) = inr (takes_none b pair w.lanes.channels (coming image b w) (λ f. apart (sym e ∙ f)))
          takes_case (inr other) = inl (takes_none a pair w.lanes.channels (coming image a w) other)

      commute : chosen image b (chosen image a w) ≡ chosen image a (chosen image b w)
      commute =
          same_state (chosen image b (chosen image a w)) (chosen image a (chosen image b w))
          (same_everywhere (chosen image b (chosen image a w)).processes (chosen image a (chosen image b w)).processes (sym b_count ∙ sym a_after.count) (λ k h. same_life k))
          (same_channels (chosen image b (chosen image a w)).lanes.channels (chosen image a (chosen image b w)).lanes.channels same_row)
          (sym b_output ∙ sym a_after.output)
          (b_runs ∙ sym a_last)

      is_local : (a b : Choice) → IsLocal image w a → one_is_local image w a b ≡ true
      is_local (Run p) (Run q) idle = ap (λ t. t || runs_local image q w) idle
      is_local (Run p) (Deliver q r) idle = refl
      is_local (Run p) (Expire q) idle = refl
      is_local (Deliver p q) b idle = refl
      is_local (Expire p) b idle = refl

      pub may_exchange : AreIndependent image w a b
      may_exchange = record {
        first_enabled = can_a;
        second_enabled = can_b;
        first_runs = a_runs;
        second_applied = b_enabled;
        second_runs = b_runs;
        apart = apart;
        local = is_local a b no_a;
        same = one_then image a b w can_a b_enabled ∙ commute ∙ sym (one_then image b a w can_b a_enabled);
      }

    -- where the other leaves the process of the local one as it was
    module _ (stays : (v : State) → length v.processes ≡ length w.processes → slice_get (chosen image b v).processes (actor a) ≡ slice_get v.processes (actor a)) where
      a_finds : Finds a w (chosen image b w)
      a_finds = finds_again image b a w (stays w refl) flipped can_b can_a

      a_again : coming image a w ≡ coming image a (chosen image b w)
      a_again = local_coming image a w (chosen image b w) no_a a_finds

      pub unmoved : AreIndependent image w a b
      unmoved =
          may_exchange (local_again image a w (chosen image b w) a_finds no_a)
          (can_from (chosen image b w) a b_first (sym (able_alike a w (chosen image b w) a_finds) ∙ able_of w a can_a))
          (sym (trap_alike image a w (chosen image b w) can_a a_again) ∙ a_runs)
          (stays (chosen image a w) a_kept.count ∙ calm_here a w (chosen image b w) (coming image a w) (local_calm image a w no_a) a_finds.life
          ∙ ap (λ x. slice_get (after a (chosen image b w) x).processes (actor a)) a_again)
          (λ pair. ap (put_by a pair) a_again)
          (λ pair. takes_alike a pair w.lanes.channels (chosen image b w).lanes.channels (coming image a w) a_finds.signal ∙ ap (taken_by a pair (chosen image b w).lanes.channels) a_again)

-- a choice that is no run is local
pub no_run_local : (image : Loaded) (c : Choice) (w : State) → IsNoRun c → IsLocal image w c
no_run_local image (Run p) w idle = absurd idle
no_run_local image (Deliver p q) w idle = tt
no_run_local image (Expire p) w idle = tt

pub independent : (image : Loaded) (a b : Choice) (w : State) → IsNoRun a → IsNoRun b → actor a ≢ actor b → can w a ≡ true → can w b ≡ true → (chosen image a w).trap ≡ None → (chosen image b (chosen image a w)).trap ≡ None → AreIndependent image w a b
independent image a b w no_a no_b apart can_a can_b a_runs b_runs =
    unmoved image a b w (no_run_local image a w no_a) apart can_a can_b a_runs b_runs (λ v e. (chosen_kept image b v (no_run_local image b v no_b)).others (actor a) apart)

-- a process that is there stays as it was beside any choice of another
pub untouched : (image : Loaded) (b : Choice) (w v : State) (p : ℕ) → p ≢ actor b → p < length w.processes → length v.processes ≡ length w.processes → slice_get (chosen image b v).processes p ≡ slice_get v.processes p
untouched image b w v p apart there as_many = (chosen_confined image b v).2 p apart (omega (arith, there, as_many))

pub beside_any : (image : Loaded) (a b : Choice) (w : State) → IsLocal image w a → actor a < length w.processes → actor a ≢ actor b → can w a ≡ true → can w b ≡ true → (chosen image a w).trap ≡ None → (chosen image b (chosen image a w)).trap ≡ None → AreIndependent image w a b
beside_any image a b w local there apart can_a can_b a_runs b_runs =
    unmoved image a b w local apart can_a can_b a_runs b_runs (λ v e. untouched image b w v (actor a) apart there e)
