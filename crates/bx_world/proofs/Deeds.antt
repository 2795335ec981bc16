-- What holds of all deeds of an instruction, and of all of a signal.
use Rattle.bx_world.proofs.Words.{◌≡◌, ℕ, [], Bool, true, false, Option, Some, None, refl, ap, if◌then◌else◌, ◌==◌, ◌||◌, not, Tree, atom, KILLED, Loaded, Signal, among, Process, with_link, without_link}
use Rattle.bx_world.proofs.Words.{attempted, settled, settled_with, Answer, Value, Effect, SpawnRequest, Request, Turn, requested, request_in, Deed, alone, closes, puts, yes, exit_message, is_kill, is_normal}
use Rattle.bx_world.proofs.Words.{low_enough, performs, did, instruction, hears, dies, is_told, exit_comes, signalled}
use Rattle.bx_terms.specs.declared.kinds.Trap.TheVariants.{TermHeight}
use Rattle.bx_signals.specs.declared.signal.Signal.TheVariants as signals
use Rattle.bx_proc.specs.declared.parts.Effect.TheVariants as effects
use Rattle.bx_world.specs.declared.requests.Request.TheVariants as requests
use Rattle.bx_world.specs.declared.turns.Turn.TheVariants as turns
use Rattle.bx_world.specs.Deeds.{leaves, badarg, unlinked_done, notes, exits_itself}

-- what holds of both holds of either
pub either : {A : Type 0} (P : A → Type 0) (b : Bool) (d e : A) → P d → P e → P (if b then d else e)
either P true d e h k = h
either P false d e h k = k

-- ---- a signal

-- it displays nothing, is taken, and has something sent only where it ends its receiver; at a trap it does nothing at all
abbrev pub Quiet : Process → Turn → Deed → Type 0
Quiet x turns.Ran d = (d.posts ≡ []) × (d.takes ≡ true)
Quiet x (turns.Ended reason) d = d.takes ≡ true
Quiet x (turns.Trapped kind) d = d ≡ alone x (turns.Trapped kind)
Quiet x (turns.Spawns spawn) d = (d.posts ≡ []) × (d.takes ≡ true)

pub record Plain (x : Process) (d : Deed) : Type 0 where
  pub shows : d.shows ≡ None
  pub quiet : Quiet x d.turn d

module _ (p : ℕ) (x : Process) where
  passes : (y : Process) → Plain x (hears y turns.Ran)
  passes y = record { shows = refl; quiet = (refl, refl) }

  ends : (y : Process) (reason : Tree) → Plain x (dies y reason)
  ends y reason = record { shows = refl; quiet = refl }

  exits : (y : Process) (reason : Tree) → Plain x (exit_comes p x y reason)
  exits y reason =
      let message = low_enough (exit_message p reason) in
      either (Plain x) x.trap_exit (is_told x y message) (if is_normal reason then hears y turns.Ran else dies y reason) (told message)
      (either (Plain x) (is_normal reason) (hears y turns.Ran) (dies y reason) (passes y) (ends y reason))
    where
      told : (o : Option Tree) → Plain x (is_told x y o)
      told None = record { shows = refl; quiet = refl }
      told (Some message) = record { shows = refl; quiet = (refl, refl) }

  pub plain : (s : Signal) → Plain x (signalled p x s)
  plain (signals.Message message) = record { shows = refl; quiet = (refl, refl) }
  plain signals.Link = record { shows = refl; quiet = (refl, refl) }
  plain signals.Unlink = record { shows = refl; quiet = (refl, refl) }
  plain (signals.LinkExit reason) = either (Plain x) (among p x.links) (exit_comes p x (without_link p x) reason) (hears x turns.Ran) (exits (without_link p x) reason) (passes x)
  plain (signals.Exit reason) = either (Plain x) (is_kill reason) (dies x (atom KILLED.0)) (exit_comes p x x reason) (ends x (atom KILLED.0)) (exits x reason)

-- ---- what holds of all that a request does

module _ (image : Loaded) (p : ℕ) (x : Process) (P : Deed → Type 0) (closed : (a : Answer) → P (closes (settled image a x))) (noted : (a : Answer) (m : Tree) → P (closes (settled_with image a m x)))
    (left : (reason : Tree) → P (leaves x reason)) (trapped : P (alone x (turns.Trapped TermHeight))) (put : (q : ℕ) (s : Signal) (d : Deed) → P d → P (puts q s d))
    (shown : (term : Tree) (d : Deed) → P d → P (record d { shows = Some term })) where
  both : (b : Bool) (d e : Deed) → P d → P e → P (if b then d else e)
  both = either P

  itself : (reason : Tree) → P (exits_itself image p reason x)
  itself reason =
      let message = low_enough (exit_message p reason) in
      both (is_kill reason) (leaves x (atom KILLED.0)) (if x.trap_exit then notes image yes x message else leaves x reason) (left (atom KILLED.0))
      (both x.trap_exit (notes image yes x message) (leaves x reason) (told message) (left reason))
    where
      told : (o : Option Tree) → P (notes image yes x o)
      told None = trapped
      told (Some message) = noted yes message

  pub each : (r : Request) → ((q : ℕ) → r ≡ requests.Link q → P (closes (settled image yes (with_link q x)))) → ((q : ℕ) → P (closes (unlinked_done q (settled image yes x))))
      → ((spawn : SpawnRequest) → r ≡ requests.Spawn spawn → P (alone x (turns.Spawns spawn))) → P (performs image p r x)
  each requests.Refused links unlinks spawns = closed badarg
  each (requests.Send q m) links unlinks spawns =
      let other = closes (settled image (Value m) x) in
      both (q == p) (closes (settled_with image (Value m) m x)) (puts q (signals.Message m) other) (noted (Value m) m) (put q (signals.Message m) other (closed (Value m)))
  each (requests.Exit q reason) links unlinks spawns =
      let other = closes (settled image yes x) in both (q == p) (exits_itself image p reason x) (puts q (signals.Exit reason) other) (itself reason) (put q (signals.Exit reason) other (closed yes))
  each (requests.Link q) links unlinks spawns =
      let other = closes (settled image yes (with_link q x)) in
      both ((q == p) || among q x.links) (closes (settled image yes x)) (puts q signals.Link other) (closed yes) (put q signals.Link other (links q refl))
  each (requests.Unlink q) links unlinks spawns =
      let other = closes (unlinked_done q (settled image yes x)) in
      both ((q == p) || not (among q x.links)) (closes (settled image yes x)) (puts q signals.Unlink other) (closed yes) (put q signals.Unlink other (unlinks q))
  each (requests.Display term) links unlinks spawns = shown term (closes (settled image yes x)) (closed yes)
  each (requests.Spawn spawn) links unlinks spawns = spawns spawn refl

-- ---- a spawn comes of asking for it

abbrev pub Spawns : Option Request → Turn → Type 0
Spawns request turns.Ran = Unit {0}
Spawns request (turns.Ended reason) = Unit {0}
Spawns request (turns.Trapped kind) = Unit {0}
Spawns request (turns.Spawns spawn) = request ≡ Some (requests.Spawn spawn)

module _ (image : Loaded) (p : ℕ) (x : Process) where
  closes_spawns : (r : Option Request) (d : Process × Effect) → Spawns r (closes d).turn
  closes_spawns r (y, effects.Ran) = tt
  closes_spawns r (y, effects.Ended reason) = tt
  closes_spawns r (y, effects.Trap kind) = tt
  closes_spawns r (y, effects.Send to message) = tt
  closes_spawns r (y, effects.Ask native arguments) = tt

  performs_spawns : (r : Request) → Spawns (Some r) (performs image p r x).turn
  performs_spawns r =
      let o = Some r in
      each image p x (λ d. Spawns o d.turn) (λ a. closes_spawns o (settled image a x)) (λ a m. closes_spawns o (settled_with image a m x)) (λ reason. tt) tt (λ q s d h. h) (λ term d h. h) r
      (λ q e. closes_spawns o (settled image yes (with_link q x))) (λ q. closes_spawns o (unlinked_done q (settled image yes x))) (λ spawn e. ap (λ s. Some s) e)

  did_spawns : (y : Process) (e : Effect) → Spawns (request_in e) (did image p x (y, e)).turn
  did_spawns y effects.Ran = tt
  did_spawns y (effects.Send to message) = performs_spawns (requests.Send to message)
  did_spawns y (effects.Ask native arguments) = performs_spawns (requested native arguments)
  did_spawns y (effects.Ended reason) = tt
  did_spawns y (effects.Trap kind) = tt

  -- what a run asks of the world
  abbrev pub asked : Option Request
  asked = request_in (attempted image p x).1

  pub spawns : Spawns asked (instruction image p x).turn
  spawns = did_spawns (attempted image p x).0 (attempted image p x).1

  same_request : (r s : Request) → ◌≡◌ {A = Option Request} (Some r) (Some s) → r ≡ s
  same_request r s is = cc

  asked_alone : (y : Process) (e : Effect) (r : Request) → request_in e ≡ Some r → did image p x (y, e) ≡ performs image p r x
  asked_alone y effects.Ran r is = cc
  asked_alone y (effects.Send to message) r is = ap (λ s. performs image p s x) (same_request (requests.Send to message) r is)
  asked_alone y (effects.Ask native arguments) r is = ap (λ s. performs image p s x) (same_request (requested native arguments) r is)
  asked_alone y (effects.Ended reason) r is = cc
  asked_alone y (effects.Trap kind) r is = cc

  -- and then nothing else has been done
  pub spawns_alone : (r : Request) → asked ≡ Some r → instruction image p x ≡ performs image p r x
  spawns_alone r is = asked_alone (attempted image p x).0 (attempted image p x).1 r is
