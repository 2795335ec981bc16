-- What stands in a set of links behind a choice stood there before it, or entered by it.
use Rattle.bx_world.proofs.Words.{◌≡◌, ℕ, zero, suc, List, [], ◌∷◌, ◌++◌, Bool, true, false, cond, ◌⊎◌, inl, inr, Option, Some, None, Ok, Err, length, refl, sym, ap, subst, ◌∙◌, arith, not, if◌then◌else◌}
use Rattle.bx_world.proofs.Words.{nat_lt, slice_get, slice_set, Tree, atom, pid, KILLED, NotEnabled, Place, Loaded, first, waiting, Signal, among, Process, can_run, can_expire, with_link, without_link, expired}
use Rattle.bx_world.proofs.Words.{attempted, settled, settled_with, Whole, Answer, Effect, settled_whole, settled_with_whole, Choice, Run, Deliver, Expire, SpawnRequest, Request, Turn, Life, Live, Exited, State}
use Rattle.bx_world.proofs.Words.{begun, requested, can, actor, Deed, closes, yes, exit_message, is_kill, is_normal, low_enough, past_limits, system_limit, other_if, is_answered, new_child, performs, did}
use Rattle.bx_world.proofs.Words.{instruction, hears, dies, is_told, exit_comes, signalled, Coming, change, turned_to, spawned, run_turn, run_coming, signal_coming, expire_coming, coming, with_life, with_child}
use Rattle.bx_world.proofs.Words.{after, chosen, behind, all_behind, request_in}
use Rattle.std.proofs.Common.{◌==◌, ⊎_elim}
use Rattle.std.proofs.lemmas.Bool.{or_cases, or_left, or_right}
use Rattle.std.proofs.lemmas.Bool.Decides.{nat_tests}
use Rattle.bx_load.specs.Image.{export}
use Rattle.bx_signals.specs.declared.signal.Signal.TheVariants as signals
use Rattle.bx_cells.specs.Links.{placed, linked, unlinked}
use Rattle.bx_proc.specs.Process.{new_process}
use Rattle.bx_proc.specs.Signals.{expired_if}
use Rattle.bx_proc.specs.declared.parts.Answer.TheVariants as answers
use Rattle.bx_proc.specs.declared.parts.Effect.TheVariants as effects
use Rattle.bx_proc.proofs.Attempts.{whole}
use Rattle.bx_world.specs.declared.requests.Request.TheVariants as requests
use Rattle.bx_world.specs.declared.turns.Turn.TheVariants as turns
use Rattle.bx_world.specs.Deeds.{linked_to}
use Rattle.bx_world.specs.Entering.{holds, is_linked, request_of, asks, SpawnsLinked, EntersByRun, Enters, Entered}
use Rattle.bx_world.proofs.Deeds.{either, each, Spawns, spawns}

-- sets of links
is_that : (m n : ℕ) → (m == n) ≡ true → n ≡ m
is_that m n h = grind (arith, nat_tests)

placed_among : (q n : ℕ) (ns : List ℕ) → among q (placed n ns) ≡ true → (among q ns ≡ true) ⊎ (q ≡ n)
placed_among q n [] h = ⊎_elim (λ e. inr (is_that n q e)) (λ r. inl r) (or_cases (n == q) false h)
placed_among q n (m ∷ ms) h = go (nat_lt m n) (placed_among q n ms) h
  where
    go : (b : Bool) → (among q (placed n ms) ≡ true → (among q ms ≡ true) ⊎ (q ≡ n)) → among q (cond b (m ∷ placed n ms) (n ∷ m ∷ ms)) ≡ true → (among q (m ∷ ms) ≡ true) ⊎ (q ≡ n)
    go true more h = ⊎_elim (λ e. inl (or_left (m == q) (among q ms) e)) (λ r. ⊎_elim (λ t. inl (or_right (m == q) (among q ms) t)) (λ e. inr e) (more r)) (or_cases (m == q) (among q (placed n ms)) h)
    go false more h = ⊎_elim (λ e. inr (is_that n q e)) (λ r. inl r) (or_cases (n == q) (among q (m ∷ ms)) h)

linked_among : (q n : ℕ) (ns : List ℕ) → among q (linked n ns) ≡ true → (among q ns ≡ true) ⊎ (q ≡ n)
linked_among q n ns h = go (among n ns) h
  where
    go : (b : Bool) → among q (cond b ns (placed n ns)) ≡ true → (among q ns ≡ true) ⊎ (q ≡ n)
    go true h = inl h
    go false h = placed_among q n ns h

unlinked_among : (q n : ℕ) (ns : List ℕ) → among q (unlinked n ns) ≡ true → among q ns ≡ true
unlinked_among q n [] h = h
unlinked_among q n (m ∷ ms) h = go (m == n) (unlinked_among q n ms) h
  where
    go : (b : Bool) → (among q (unlinked n ms) ≡ true → among q ms ≡ true) → among q (cond (not b) (m ∷ unlinked n ms) (unlinked n ms)) ≡ true → among q (m ∷ ms) ≡ true
    go true more h = or_right (m == q) (among q ms) (more h)
    go false more h = ⊎_elim (λ e. or_left (m == q) (among q ms) e) (λ r. or_right (m == q) (among q ms) (more r)) (or_cases (m == q) (among q (unlinked n ms)) h)

-- one process: what is in its set was there, or entered for this reason
abbrev Grows : (ℕ → Type 0) → Process → Process → Type 0
Grows E x y = (q : ℕ) → among q y.links ≡ true → (among q x.links ≡ true) ⊎ E q

same_links : (E : ℕ → Type 0) (x y : Process) → y.links ≡ x.links → Grows E x y
same_links E x y is q h = inl (ap (among q) (sym is) ∙ h)

no_more : (E : ℕ → Type 0) (x : Process) → Grows E x x
no_more E x q h = inl h

linked_grows : (n : ℕ) (E : ℕ → Type 0) (x y : Process) → E n → Grows E (with_link n x) y → Grows E x y
linked_grows n E x y e h q is = ⊎_elim (λ t. ⊎_elim (λ u. inl u) (λ same. inr (subst E (sym same) e)) (linked_among q n x.links t)) (λ t. inr t) (h q is)

unlinked_grows : (n : ℕ) (E : ℕ → Type 0) (x y : Process) → Grows E x y → Grows E x (without_link n y)
unlinked_grows n E x y h q is = h q (unlinked_among q n y.links is)

whole_grows : (E : ℕ → Type 0) (x y : Process) (e : Effect) → Whole x y e → Grows E x y
whole_grows E x y effects.Ran h = same_links E x y h.0
whole_grows E x y (effects.Ended reason) h = same_links E x y (ap (λ (v : Process). v.links) h)
whole_grows E x y (effects.Trap kind) h = same_links E x y (ap (λ (v : Process). v.links) h)
whole_grows E x y (effects.Send to m) h = same_links E x y (ap (λ (v : Process). v.links) h)
whole_grows E x y (effects.Ask n ts) h = same_links E x y (ap (λ (v : Process). v.links) h)

settled_grows : (E : ℕ → Type 0) (image : Loaded) (a : Answer) (x : Process) → Grows E x (settled image a x).0
settled_grows E image a x = whole_grows E x (settled image a x).0 (settled image a x).1 (settled_whole image a x (settled image a x).0 (settled image a x).1 refl)

settled_with_grows : (E : ℕ → Type 0) (image : Loaded) (a : Answer) (m : Tree) (x : Process) → Grows E x (settled_with image a m x).0
settled_with_grows E image a m x = whole_grows E x (settled_with image a m x).0 (settled_with image a m x).1 (settled_with_whole image a m x (settled_with image a m x).0 (settled_with image a m x).1 refl)

-- what one process does
module _ (E : ℕ → Type 0) (x : Process) where
  abbrev DeedGrows : Deed → Type 0
  DeedGrows d = Grows E x d.process

  closes_grows : (y : Process) (e : Effect) → Grows E x y → DeedGrows (closes (y, e))
  closes_grows y effects.Ran h = h
  closes_grows y (effects.Ended reason) h = h
  closes_grows y (effects.Trap kind) h = h
  closes_grows y (effects.Send to m) h = h
  closes_grows y (effects.Ask n ts) h = h

  closed : (image : Loaded) (a : Answer) → DeedGrows (closes (settled image a x))
  closed image a = closes_grows (settled image a x).0 (settled image a x).1 (settled_grows E image a x)

-- only its own `link` lets another in
abbrev Linking : Option Request → ℕ → Type 0
Linking request q = request ≡ Some (requests.Link q)

performs_grows : (image : Loaded) (p : ℕ) (r : Request) (x : Process) → DeedGrows (Linking (Some r)) x (performs image p r x)
performs_grows image p r x =
    let E = Linking (Some r) in
    let left = (settled image yes x).0 in
    each image p x (DeedGrows E x) (closed E x image) (λ a m. closes_grows E x (settled_with image a m x).0 (settled_with image a m x).1 (settled_with_grows E image a m x)) (λ reason. no_more E x) (no_more E x)
    (λ q s d h. h) (λ term d h. h) r
    (λ q e. let y = settled image yes (with_link q x) in closes_grows E x y.0 y.1 (linked_grows q E x y.0 (ap (λ s. Some s) e) (settled_grows E image yes (with_link q x))))
    (λ q. closes_grows E x (without_link q left) (settled image yes x).1 (unlinked_grows q E x left (settled_grows E image yes x)))
    (λ spawn e. no_more E x)

did_grows : (image : Loaded) (p : ℕ) (x y : Process) (e : Effect) → Whole x y e → DeedGrows (Linking (request_in e)) x (did image p x (y, e))
did_grows image p x y effects.Ran h = whole_grows (Linking None) x y effects.Ran h
did_grows image p x y (effects.Send to m) h = performs_grows image p (requests.Send to m) x
did_grows image p x y (effects.Ask n ts) h = performs_grows image p (requested n ts) x
did_grows image p x y (effects.Ended reason) h = no_more (Linking None) x
did_grows image p x y (effects.Trap kind) h = no_more (Linking None) x

instruction_grows : (image : Loaded) (p : ℕ) (x : Process) → DeedGrows (Linking (request_in (attempted image p x).1)) x (instruction image p x)
instruction_grows image p x = did_grows image p x (attempted image p x).0 (attempted image p x).1 (whole image p x (attempted image p x).0 (attempted image p x).1 refl)

-- a signal lets its sender in where it is a link
module _ (p : ℕ) (x : Process) (E : ℕ → Type 0) where
  exit_grows : (y : Process) (reason : Tree) → Grows E x y → DeedGrows E x (exit_comes p x y reason)
  exit_grows y reason h =
      let message = low_enough (exit_message p reason) in
      either (DeedGrows E x) x.trap_exit (is_told x y message) (if is_normal reason then hears y turns.Ran else dies y reason) (told message)
      (either (DeedGrows E x) (is_normal reason) (hears y turns.Ran) (dies y reason) h h)
    where
      told : (o : Option Tree) → DeedGrows E x (is_told x y o)
      told None = no_more E x
      told (Some m) = h

signal_grows : (p : ℕ) (x : Process) (s : Signal) → DeedGrows (λ q. (p ≡ q) × (s ≡ signals.Link)) x (signalled p x s)
signal_grows p x (signals.Message m) = no_more (λ q. (p ≡ q) × (signals.Message m ≡ signals.Link)) x
signal_grows p x signals.Link = linked_grows p (λ q. (p ≡ q) × (signals.Link ≡ signals.Link)) x (with_link p x) (refl, refl) (no_more (λ q. (p ≡ q) × (signals.Link ≡ signals.Link)) (with_link p x))
signal_grows p x signals.Unlink = let E : ℕ → Type 0 = λ q. (p ≡ q) × (signals.Unlink ≡ signals.Link) in unlinked_grows p E x x (no_more E x)
signal_grows p x (signals.LinkExit reason) =
    let E : ℕ → Type 0 = λ q. (p ≡ q) × (signals.LinkExit reason ≡ signals.Link) in
    either (DeedGrows E x) (among p x.links) (exit_comes p x (without_link p x) reason) (hears x turns.Ran) (exit_grows p x E (without_link p x) reason (unlinked_grows p E x x (no_more E x))) (no_more E x)
signal_grows p x (signals.Exit reason) =
    let E : ℕ → Type 0 = λ q. (p ≡ q) × (signals.Exit reason ≡ signals.Link) in
    either (DeedGrows E x) (is_kill reason) (dies x (atom KILLED.0)) (exit_comes p x x reason) (no_more E x) (exit_grows p x E x reason (no_more E x))

-- a process that is answered for a spawn lets its child in, and a child its parent
child_asked : (child : Option ℕ) (x y : Process) → Grows (λ q. child ≡ Some q) (linked_to child x) y → Grows (λ q. child ≡ Some q) x y
child_asked None x y h = h
child_asked (Some c) x y h = linked_grows c (λ q. Some c ≡ Some q) x y refl h

answered_grows : (image : Loaded) (child : Option ℕ) (a : Answer) (x : Process) → DeedGrows (λ q. child ≡ Some q) x (is_answered image child a x)
answered_grows image child a x =
    let E : ℕ → Type 0 = λ q. child ≡ Some q in
    let d = settled image a (linked_to child x) in closes_grows E x d.0 d.1 (child_asked child x d.0 (settled_grows E image a (linked_to child x)))

other_of : (b : Bool) (c q : ℕ) → other_if b c ≡ Some q → (b ≡ true) × (q ≡ c)
other_of true c q h = (refl, cc)
other_of false c q h = cc

-- a child is linked to its parent alone
only_one : (o : Option ℕ) (x : Process) (q : ℕ) → among q x.links ≡ false → among q (linked_to o x).links ≡ true → o ≡ Some q
only_one None x q none h = let no : false ≡ true = sym none ∙ h in cc
only_one (Some c) x q none h = ⊎_elim (λ t. let no : false ≡ true = sym none ∙ t in cc) (λ e. ap (λ n. Some n) (sym e)) (linked_among q c x.links h)

new_child_holds : (image : Loaded) (p : ℕ) (spawn : SpawnRequest) (q : ℕ) → among q (new_child image p spawn).links ≡ true → (spawn.linked ≡ true) × (q ≡ p)
new_child_holds image p spawn q h =
    other_of spawn.linked p q (only_one (other_if spawn.linked p) (new_process (export image spawn.«module» spawn.function (length spawn.arguments)) spawn.arguments) q refl h)

-- ---- a change

-- for these reasons q may enter the set of k
module _ (R : ℕ → ℕ → Type 0) (lives : List Life) where
  abbrev Gains : List Life → Type 0
  Gains more = (k q : ℕ) → is_linked more k q ≡ true → (is_linked lives k q ≡ true) ⊎ R k q

  abbrev LifeGains : ℕ → Option Life → Type 0
  LifeGains p None = Unit {0}
  LifeGains p (Some one) = (q : ℕ) → holds q (Some one) ≡ true → (is_linked lives p q ≡ true) ⊎ R p q

  abbrev ChildGains : Option Process → Type 0
  ChildGains None = Unit {0}
  ChildGains (Some x) = (q : ℕ) → among q x.links ≡ true → R (length lives) q

  abbrev ComingGains : ℕ → Coming → Type 0
  ComingGains p (Ok (Ok made)) = LifeGains p made.life × ChildGains made.child
  ComingGains p (Ok (Err kind)) = Unit {0}
  ComingGains p (Err fault) = Unit {0}

  appended : (xs : List Life) (x : Process) (k q : ℕ) → is_linked (xs ++ Live x ∷ []) k q ≡ true → (is_linked xs k q ≡ true) ⊎ ((k ≡ length xs) × (among q x.links ≡ true))
  appended [] x zero q h = inr (refl, h)
  appended [] x (suc k) q h = let no : false ≡ true = h in cc
  appended (z ∷ xs) x zero q h = inl h
  appended (z ∷ xs) x (suc k) q h = ⊎_elim (λ t. inl t) (λ t. inr (omega (arith, t.0), t.1)) (appended xs x k q h)

  child_gains : (child : Option Process) → ChildGains child → Gains (with_child child lives)
  child_gains None h k q is = inl is
  child_gains (Some x) h k q is = ⊎_elim (λ t. inl t) (λ t. inr (subst (λ n. R n q) (sym t.0) (h q t.1))) (appended lives x k q is)

  set_holds : (xs : List Life) (p k q : ℕ) (one : Life) → is_linked (slice_set xs p one) k q ≡ true → (is_linked xs k q ≡ true) ⊎ ((p ≡ k) × (holds q (Some one) ≡ true))
  set_holds [] p k q one h = inl h
  set_holds (x ∷ xs) zero zero q one h = inr (refl, h)
  set_holds (x ∷ xs) zero (suc k) q one h = inl h
  set_holds (x ∷ xs) (suc p) zero q one h = inl h
  set_holds (x ∷ xs) (suc p) (suc k) q one h = ⊎_elim (λ t. inl t) (λ t. inr (ap (λ n. suc n) t.0, t.1)) (set_holds xs p k q one h)

  life_gains : (p : ℕ) (life : Option Life) (more : List Life) → LifeGains p life → Gains more → Gains (with_life p life more)
  life_gains p None more h g k q is = g k q is
  life_gains p (Some one) more h g k q is =
      ⊎_elim (λ t. g k q t) (λ t. subst (λ n. (is_linked lives n q ≡ true) ⊎ R n q) t.0 (h q t.1)) (set_holds more p k q one is)

  -- what a deed leaves
  turned_gains : (p : ℕ) (x : Process) (child : Option Process) (d : Deed) (turn : Turn) → slice_get lives p ≡ Some (Live x) → Grows (R p) x d.process → ChildGains child → ComingGains p (Ok (turned_to turn child d))
  turned_gains p x child d turns.Ran at h born = (λ q is. ⊎_elim (λ t. inl (ap (holds q) at ∙ t)) (λ r. inr r) (h q is), born)
  turned_gains p x child d (turns.Ended reason) at h born = (λ q is. let no : false ≡ true = is in cc, born)
  turned_gains p x child d (turns.Trapped kind) at h born = tt
  turned_gains p x child d (turns.Spawns spawn) at h born = (λ q is. ⊎_elim (λ t. inl (ap (holds q) at ∙ t)) (λ r. inr r) (h q is), born)

by_reason : (E F : ℕ → Type 0) (x y : Process) → ((q : ℕ) → E q → F q) → Grows E x y → Grows F x y
by_reason E F x y more h q is = ⊎_elim (λ t. inl t) (λ e. inr (more q e)) (h q is)

-- a run of p
module _ (image : Loaded) (p : ℕ) (lives : List Life) (x : Process) (at : slice_get lives p ≡ Some (Live x)) where
  abbrev Reason : ℕ → ℕ → Type 0
  Reason k q = EntersByRun image lives p k q

  asked_there : asks image lives p ≡ request_in (attempted image p x).1
  asked_there = ap (request_of image p) at

  spawned_gains : (spawn : SpawnRequest) → request_in (attempted image p x).1 ≡ Some (requests.Spawn spawn) → ComingGains Reason lives p (Ok (spawned image p (length lives) spawn x))
  spawned_gains spawn asked =
      let count = length lives in
      let other = other_if spawn.linked count in
      let value = answers.Value (pid count) in
      let limit = is_answered image None system_limit x in
      let answered = is_answered image other value x in
      go (past_limits spawn count) limit answered
      (turned_gains Reason lives p x None limit limit.turn at (by_reason (λ q. None ≡ Some q) (Reason p) x limit.process (λ q e. cc) (answered_grows image None system_limit x)) tt)
      (turned_gains Reason lives p x (Some (new_child image p spawn)) answered answered.turn at
      (by_reason (λ q. other ≡ Some q) (Reason p) x answered.process (λ q e. let of = other_of spawn.linked count q e in inr (is_linked_spawn of.0, inl (refl, of.1))) (answered_grows image other value x))
      (λ q h. let of = new_child_holds image p spawn q h in inr (is_linked_spawn of.0, inr (sym of.1, refl))))
    where
      is_linked_spawn : spawn.linked ≡ true → SpawnsLinked (asks image lives p)
      is_linked_spawn h = subst SpawnsLinked (sym (asked_there ∙ asked)) h

      go : (b : Bool) (d e : Deed) → ComingGains Reason lives p (Ok (change None d)) → ComingGains Reason lives p (Ok (change (Some (new_child image p spawn)) e))
          → ComingGains Reason lives p (Ok (if b then change None d else change (Some (new_child image p spawn)) e))
      go true d e h k = h
      go false d e h k = k

  run_gains : (d : Deed) (turn : Turn) → Spawns (request_in (attempted image p x).1) turn → Grows (Reason p) x d.process → ComingGains Reason lives p (Ok (run_turn turn image p (length lives) x (record d { turn = turn })))
  run_gains d turns.Ran asked h = turned_gains Reason lives p x None d turns.Ran at h tt
  run_gains d (turns.Ended reason) asked h = turned_gains Reason lives p x None d (turns.Ended reason) at h tt
  run_gains d (turns.Trapped kind) asked h = tt
  run_gains d (turns.Spawns spawn) asked h = spawned_gains spawn asked

  instruction_gains : ComingGains Reason lives p (Ok (run_turn (instruction image p x).turn image p (length lives) x (instruction image p x)))
  instruction_gains =
      let d = instruction image p x in
      run_gains d d.turn (spawns image p x)
      (by_reason (Linking (request_in (attempted image p x).1)) (Reason p) x d.process (λ q e. inl (refl, asked_there ∙ e)) (instruction_grows image p x))

-- any choice
coming_gains : (image : Loaded) (c : Choice) (w : State) → ComingGains (Enters image w c) w.processes (actor c) (coming image c w)
coming_gains image (Run p) w = go (slice_get w.processes p) refl
  where
    go : (o : Option Life) → slice_get w.processes p ≡ o → ComingGains (Enters image w (Run p)) w.processes p (run_coming image p (length w.processes) o)
    go None at = tt
    go (Some (Exited reason)) at = tt
    go (Some (Live x)) at =
        either (ComingGains (Enters image w (Run p)) w.processes p) (can_run x) (Ok (run_turn (instruction image p x).turn image p (length w.processes) x (instruction image p x))) (Err NotEnabled)
        (instruction_gains image p w.processes x at) tt
coming_gains image (Deliver p r) w = go (slice_get w.processes r) (first (waiting w.lanes.channels (p, r))) refl refl
  where
    go : (o : Option Life) (s : Option Signal) → slice_get w.processes r ≡ o → first (waiting w.lanes.channels (p, r)) ≡ s → ComingGains (Enters image w (Deliver p r)) w.processes r (signal_coming p o s)
    go o None at is = tt
    go None (Some s) at is = (tt, tt)
    go (Some (Exited reason)) (Some s) at is = (λ q h. let no : false ≡ true = h in cc, tt)
    go (Some (Live x)) (Some s) at is =
        let d = signalled p x s in
        turned_gains (Enters image w (Deliver p r)) w.processes r x None d d.turn at
        (by_reason (λ q. (p ≡ q) × (s ≡ signals.Link)) (Enters image w (Deliver p r) r) x d.process
        (λ q e. (e.0, refl, ap (λ n. first (waiting w.lanes.channels (n, r))) (sym e.0) ∙ is ∙ ap Some e.1)) (signal_grows p x s)) tt
coming_gains image (Expire p) w = go (slice_get w.processes p) refl
  where
    links : (b : Bool) (x : Process) → (expired_if b x).links ≡ x.links
    links true x = refl
    links false x = refl

    go : (o : Option Life) → slice_get w.processes p ≡ o → ComingGains (Enters image w (Expire p)) w.processes p (expire_coming o)
    go None at = tt
    go (Some (Exited reason)) at = tt
    go (Some (Live x)) at =
        either (ComingGains (Enters image w (Expire p)) w.processes p) (can_expire x) (Ok (Ok (record { life = Some (Live (expired x)); child = None; posts = []; takes = false; shows = None }))) (Err NotEnabled)
        (λ q h. inl (ap (holds q) at ∙ ap (among q) (sym (links (can_expire x) x)) ∙ h), tt) tt

pub chosen_gains : (image : Loaded) (choice : Choice) (w : State) → Gains (Enters image w choice) w.processes (chosen image choice w).processes
chosen_gains image choice w = go (coming image choice w) (coming_gains image choice w)
  where
    go : (x : Coming) → ComingGains (Enters image w choice) w.processes (actor choice) x → Gains (Enters image w choice) w.processes (after choice w x).processes
    go (Ok (Ok made)) h =
        life_gains (Enters image w choice) w.processes (actor choice) made.life (with_child made.child w.processes) h.0 (child_gains (Enters image w choice) w.processes made.child h.1)
    go (Ok (Err kind)) h = λ k q is. inl is
    go (Err fault) h = λ k q is. inl is

-- choices in a row
behind_gains : (image : Loaded) (choice : Choice) (w : State) (p q : ℕ) → is_linked (behind image choice w).processes p q ≡ true
    → (is_linked w.processes p q ≡ true) ⊎ ((can w choice ≡ true) × Enters image w choice p q)
behind_gains image choice w p q h = go (can w choice) refl h
  where
    go : (b : Bool) → can w choice ≡ b → is_linked (if b then chosen image choice w else w).processes p q ≡ true → (is_linked w.processes p q ≡ true) ⊎ ((can w choice ≡ true) × Enters image w choice p q)
    go true able h = ⊎_elim (λ t. inl t) (λ e. inr (able, e)) (chosen_gains image choice w p q h)
    go false able h = inl h

pub all_enter : (image : Loaded) (choices : List Choice) (w : State) (p q : ℕ) → is_linked (all_behind image choices w).processes p q ≡ true → (is_linked w.processes p q ≡ true) ⊎ Entered image choices w p q
all_enter image [] w p q h = inl h
all_enter image (choice ∷ more) w p q h =
    ⊎_elim (λ t. ⊎_elim (λ u. inl u) (λ e. inr (inl e)) (behind_gains image choice w p q t)) (λ e. inr (inr e)) (all_enter image more (behind image choice w) p q h)

none_begun : (place : Place) (p q : ℕ) → is_linked (begun place).processes p q ≡ false
none_begun place zero q = refl
none_begun place (suc p) q = refl

pub all_enter_from_start : (image : Loaded) (choices : List Choice) (place : Place) (p q : ℕ) → is_linked (all_behind image choices (begun place)).processes p q ≡ true → Entered image choices (begun place) p q
all_enter_from_start image choices place p q h =
    ⊎_elim (λ t. let no : false ≡ true = sym (none_begun place p q) ∙ t in cc) (λ e. e) (all_enter image choices (begun place) p q h)
