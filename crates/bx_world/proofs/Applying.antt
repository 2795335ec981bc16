-- What a choice makes of processes and lanes is its change, applied; and it makes something exactly where it is enabled.
use Rattle.bx_world.proofs.Words.{◌≡◌, ℕ, List, [], ◌∷◌, ◌++◌, Option, Some, None, Result, Ok, Err, Bool, true, false, length, refl, sym, ap, subst, ◌∙◌, IsTrue, ◌&&◌, if◌then◌else◌, is_some, is_none}
use Rattle.bx_world.proofs.Words.{slice_get, slice_set, set, pid, Fault, NotEnabled, Halted, Trap, Loaded, first, waiting, Signal, Process, can_run, can_expire, expired, Value, Choice, Run, Deliver, Expire}
use Rattle.bx_world.proofs.Words.{Lanes, SpawnRequest, Turn, Life, Live, Exited, State, Done, whole, done, runs, heard, able, can, actor, may_at, may_run, may_expire, Spawned, acted_at, lives_acted, Among, lived}
use Rattle.bx_world.proofs.Words.{lived_if, exited_if, life_run, put_back, at_life, lives_run, childless_at_trap, lives_with_child, lives_spawned, tell, world_if, spawned_too, made, unless_refused, chosen}
use Rattle.bx_world.proofs.Words.{applied, Deed, alone, past_limits, system_limit, other_if, is_answered, new_child, instruction, signalled, Coming, change, spawned, run_turn, run_coming, signal_coming}
use Rattle.bx_world.proofs.Words.{expire_coming, coming, after}
use Rattle.std.proofs.lemmas.List.{set-get_or}
use Rattle.std.proofs.lemmas.Option.{get_or_from_slice_get, slice_get_within}
use Rattle.bx_signals.specs.declared.signal.Signal.TheVariants as signals
use Rattle.bx_world.specs.declared.requests.Request.TheVariants as requests
use Rattle.bx_world.specs.declared.turns.Turn.TheVariants as turns
use Rattle.bx_world.specs.Delivering.{exited_heard, lost}
use Rattle.bx_world.specs.declared.acts.Act.TheVariants as acts
use Rattle.bx_world.specs.declared.acts.Act.TheVariants.{Hear, Unspawned}
use Rattle.bx_world.specs.Asking.{is_undone}
use Rattle.bx_world.specs.Lifetimes.{lost_if}
use Rattle.bx_world.specs.Batches.{trap_in, pinned}
use Rattle.bx_world.specs.Choosing.{trap_of, world_of}
use Rattle.bx_world.proofs.Confined.{get_first}
use Rattle.bx_world.proofs.Deeds.{Quiet, plain, Spawns, asked, spawns, spawns_alone}

-- what stood at a place, put there again
pub set_back : {A : Type 0} (xs : List A) (p : ℕ) (x : A) → slice_get xs p ≡ Some x → slice_set xs p x ≡ xs
set_back xs p x at = ap (λ y. set xs p y) (sym (get_or_from_slice_get xs p x x at)) ∙ set-get_or xs p x

-- ---- what is made is the change, applied

abbrev pub Mirrors : Choice → State → Result Among Fault → Coming → Type 0
Mirrors c w (Ok among) (Ok comes) = world_of (actor c) among ≡ after c w (Ok comes)
Mirrors c w (Err fault) (Err none) = fault ≡ NotEnabled
Mirrors c w (Ok among) (Err none) = ⊥
Mirrors c w (Err fault) (Ok comes) = ⊥

-- a deed of a process that lives
deed_mirrors : (c : Choice) (w : State) (x : Process) (d : Deed) → slice_get w.processes (actor c) ≡ Some (Live x)
    → Mirrors c w (put_back (actor c) w.processes (Ok (lived (whole (x, w.lanes) (done c w.lanes d))))) (Ok (change None d))
deed_mirrors c w x d at = by_turn d.turn
  where
    by_turn : (turn : Turn) → Mirrors c w (put_back (actor c) w.processes (Ok (lived (whole (x, w.lanes) (done c w.lanes (record d { turn = turn })))))) (Ok (change None (record d { turn = turn })))
    by_turn turns.Ran = refl
    by_turn (turns.Ended reason) = refl
    by_turn (turns.Trapped kind) = ap (λ (lives : List Life). record w { processes = lives; trap = Some (kind, actor c) }) (set_back w.processes (actor c) (Live x) at)
    by_turn (turns.Spawns spawn) = refl

-- the same with a child, which after a trap there is not
child_mirrors : (p : ℕ) (w : State) (x child : Process) (d : Deed)
    → Mirrors (Run p) w (childless_at_trap w.processes w.lanes (put_back p (w.processes ++ Live child ∷ []) (Ok (lived (whole (x, w.lanes) (done (Run p) w.lanes d)))))) (Ok (change (Some child) d))
child_mirrors p w x child d = by_turn d.turn
  where
    by_turn : (turn : Turn) → Mirrors (Run p) w (childless_at_trap w.processes w.lanes (put_back p (w.processes ++ Live child ∷ []) (Ok (lived (whole (x, w.lanes) (done (Run p) w.lanes (record d { turn = turn })))))))
        (Ok (change (Some child) (record d { turn = turn })))
    by_turn turns.Ran = refl
    by_turn (turns.Ended reason) = refl
    by_turn (turns.Trapped kind) = refl
    by_turn (turns.Spawns spawn) = refl

module _ (image : Loaded) (p : ℕ) (w : State) (x : Process) (at : slice_get w.processes p ≡ Some (Live x)) where
  spawned_mirrors : (spawn : SpawnRequest) → Mirrors (Run p) w (lives_spawned image p spawn w.lanes w.processes) (Ok (spawned image p (length w.processes) spawn x))
  spawned_mirrors spawn =
      let count = length w.processes in
      let child = new_child image p spawn in
      let value = Value (pid count) in
      let other = other_if spawn.linked count in
      let more = w.processes ++ Live child ∷ [] in
      go (past_limits spawn count) (lives_acted image p Unspawned w.lanes w.processes) (lives_with_child image p spawn w.lanes w.processes)
      (is_answered image None system_limit x) (is_answered image other value x) (Some child)
      (subst (λ (o : Option Life). Mirrors (Run p) w (acted_at image p Unspawned w.lanes w.processes o) (Ok (change None (is_answered image None system_limit x)))) (sym at)
      (deed_mirrors (Run p) w x (is_answered image None system_limit x) at))
      (subst (λ (o : Option Life). Mirrors (Run p) w (childless_at_trap w.processes w.lanes (acted_at image p (Spawned count spawn.linked) w.lanes more o)) (Ok (change (Some child) (is_answered image other value x))))
      (sym (get_first w.processes (Live child ∷ []) p (slice_get_within w.processes p (Live x) at) ∙ at))
      (child_mirrors p w x child (is_answered image other value x)))
    where
      go : (b : Bool) (r s : Result Among Fault) (d e : Deed) (child : Option Process) → Mirrors (Run p) w r (Ok (change None d)) → Mirrors (Run p) w s (Ok (change child e))
          → Mirrors (Run p) w (if b then r else s) (Ok (if b then change None d else change child e))
      go true r s d e child h k = h
      go false r s d e child h k = k

  -- what an instruction was, and then a child
  abbrev run_made : Deed → Result Among Fault
  run_made d = spawned_too image p (put_back p w.processes (Ok (lived (whole (x, w.lanes) (done (Run p) w.lanes d)))))

  spawning_mirrors : (spawn : SpawnRequest) → Mirrors (Run p) w (run_made (alone x (turns.Spawns spawn))) (Ok (spawned image p (length w.processes) spawn x))
  spawning_mirrors spawn =
      subst (λ (lives : List Life). Mirrors (Run p) w (lives_spawned image p spawn w.lanes lives) (Ok (spawned image p (length w.processes) spawn x))) (sym (set_back w.processes p (Live x) at)) (spawned_mirrors spawn)

  ran_mirrors : (d : Deed) (turn : Turn) → d.turn ≡ turn → ((spawn : SpawnRequest) → turn ≡ turns.Spawns spawn → d ≡ alone x (turns.Spawns spawn))
      → Mirrors (Run p) w (run_made (record d { turn = turn })) (Ok (run_turn turn image p (length w.processes) x (record d { turn = turn })))
  ran_mirrors d turns.Ran is only = deed_mirrors (Run p) w x (record d { turn = turns.Ran }) at
  ran_mirrors d (turns.Ended reason) is only = deed_mirrors (Run p) w x (record d { turn = turns.Ended reason }) at
  ran_mirrors d (turns.Trapped kind) is only = deed_mirrors (Run p) w x (record d { turn = turns.Trapped kind }) at
  ran_mirrors d (turns.Spawns spawn) is only =
      subst (λ (e : Deed). Mirrors (Run p) w (run_made (record e { turn = turns.Spawns spawn })) (Ok (spawned image p (length w.processes) spawn x))) (sym (only spawn refl)) (spawning_mirrors spawn)

  asked_only : (turn : Turn) (spawn : SpawnRequest) → Spawns (asked image p x) turn → turn ≡ turns.Spawns spawn → instruction image p x ≡ alone x (turns.Spawns spawn)
  asked_only turn spawn h is = spawns_alone image p x (requests.Spawn spawn) (subst (Spawns (asked image p x)) is h)

  instruction_mirrors : Mirrors (Run p) w (spawned_too image p (put_back p w.processes (Ok (lived (runs image p w.lanes x))))) (Ok (run_turn (instruction image p x).turn image p (length w.processes) x (instruction image p x)))
  instruction_mirrors =
      let d = instruction image p x in ran_mirrors d d.turn refl (λ spawn is. asked_only d.turn spawn (spawns image p x) is)

-- a signal that traps has changed nothing
undone : (p q : ℕ) (x : Process) (l : Lanes) (d : Deed) (turn : Turn) → Quiet x turn d → whole (x, l) (done (Deliver p q) l (record d { turn = turn })) ≡ done (Deliver p q) l (record d { turn = turn })
undone p q x l d turns.Ran quiet = refl
undone p q x l d (turns.Ended reason) quiet = refl
undone p q x l d (turns.Trapped kind) quiet = ap (λ (e : Deed). done (Deliver p q) l (record e { turn = turns.Trapped kind })) (sym quiet)
undone p q x l d (turns.Spawns spawn) quiet = refl

-- by choice
module _ (image : Loaded) (w : State) where
  run_mirrors : (p : ℕ) (o : Option Life) → slice_get w.processes p ≡ o → Mirrors (Run p) w (spawned_too image p (at_life (life_run image p w.lanes) p w.processes o)) (run_coming image p (length w.processes) o)
  run_mirrors p None at = refl
  run_mirrors p (Some (Exited reason)) at = refl
  run_mirrors p (Some (Live x)) at = go (can_run x)
    where
      go : (b : Bool) → Mirrors (Run p) w (spawned_too image p (put_back p w.processes (if b then Ok (lived (runs image p w.lanes x)) else Err NotEnabled)))
          (if b then Ok (run_turn (instruction image p x).turn image p (length w.processes) x (instruction image p x)) else Err NotEnabled)
      go true = instruction_mirrors image p w x at
      go false = refl

  -- a delivery, told by the signal that waits first
  abbrev told_with : ℕ → ℕ → Option Life → Option Signal → Result Among Fault
  told_with p q None s = lost_if w.processes (lost p q w.lanes s)
  told_with p q (Some (Live x)) s = put_back q w.processes (lived_if (heard p q x w.lanes s))
  told_with p q (Some (Exited reason)) s = put_back q w.processes (exited_if reason (exited_heard p q w.lanes s))

  told_is : (p q : ℕ) (o : Option Life) → acted_at image q (Hear p) w.lanes w.processes o ≡ told_with p q o (first (waiting w.lanes.channels (p, q)))
  told_is p q None = refl
  told_is p q (Some (Live x)) = refl
  told_is p q (Some (Exited reason)) = refl

  told_mirrors : (p q : ℕ) (o : Option Life) (s : Option Signal) → slice_get w.processes q ≡ o → Mirrors (Deliver p q) w (told_with p q o s) (signal_coming p o s)
  told_mirrors p q None None at = refl
  told_mirrors p q None (Some s) at = refl
  told_mirrors p q (Some (Live x)) None at = refl
  told_mirrors p q (Some (Live x)) (Some s) at =
      let d = signalled p x s in
      subst (λ (e : Done). Mirrors (Deliver p q) w (put_back q w.processes (Ok (lived e))) (Ok (change None d))) (undone p q x w.lanes d d.turn (plain p x s).quiet) (deed_mirrors (Deliver p q) w x d at)
  told_mirrors p q (Some (Exited reason)) None at = refl
  told_mirrors p q (Some (Exited reason)) (Some signals.Link) at = refl
  told_mirrors p q (Some (Exited reason)) (Some (signals.Message m)) at = refl
  told_mirrors p q (Some (Exited reason)) (Some signals.Unlink) at = refl
  told_mirrors p q (Some (Exited reason)) (Some (signals.LinkExit other)) at = refl
  told_mirrors p q (Some (Exited reason)) (Some (signals.Exit other)) at = refl

  expire_mirrors : (p : ℕ) (o : Option Life) → Mirrors (Expire p) w (acted_at image p acts.Expire w.lanes w.processes o) (expire_coming o)
  expire_mirrors p None = refl
  expire_mirrors p (Some (Exited reason)) = refl
  expire_mirrors p (Some (Live x)) = go (can_expire x)
    where
      go : (b : Bool) → Mirrors (Expire p) w (put_back p w.processes (lived_if (if b then Ok ((expired x, w.lanes), turns.Ran) else Err NotEnabled)))
          (if b then Ok (Ok (record { life = Some (Live (expired x)); child = None; posts = []; takes = false; shows = None })) else Err NotEnabled)
      go true = refl
      go false = refl

  pub made_mirrors : (c : Choice) → Mirrors c w (made image c w.processes w.lanes) (coming image c w)
  made_mirrors (Run p) = run_mirrors p (slice_get w.processes p) refl
  made_mirrors (Deliver p q) =
      let o = slice_get w.processes q in
      let s = first (waiting w.lanes.channels (p, q)) in subst (λ (r : Result Among Fault). Mirrors (Deliver p q) w r (signal_coming p o s)) (sym (told_is p q o)) (told_mirrors p q o s refl)
  made_mirrors (Expire p) = expire_mirrors p (slice_get w.processes p)

-- ---- something comes of a choice exactly where it is enabled

abbrev pub ComesAs : Bool → Coming → Type 0
ComesAs true (Ok comes) = Unit {0}
ComesAs true (Err fault) = ⊥
ComesAs false (Ok comes) = ⊥
ComesAs false (Err fault) = fault ≡ NotEnabled

comes_if : (b : Bool) (x : Coming) → ComesAs true x → ComesAs b (if b then x else Err NotEnabled)
comes_if true x h = h
comes_if false x h = refl

pub comes_as : (image : Loaded) (c : Choice) (w : State) → ComesAs (able c w.processes w.lanes) (coming image c w)
comes_as image (Run p) w = go (slice_get w.processes p)
  where
    go : (o : Option Life) → ComesAs (may_at may_run o) (run_coming image p (length w.processes) o)
    go None = refl
    go (Some (Exited reason)) = refl
    go (Some (Live x)) = comes_if (can_run x) (Ok (run_turn (instruction image p x).turn image p (length w.processes) x (instruction image p x))) tt
comes_as image (Deliver p q) w = go (first (waiting w.lanes.channels (p, q)))
  where
    go : (s : Option Signal) → ComesAs (is_some s) (signal_coming p (slice_get w.processes q) s)
    go None = refl
    go (Some s) = tt
comes_as image (Expire p) w = go (slice_get w.processes p)
  where
    go : (o : Option Life) → ComesAs (may_at may_expire o) (expire_coming o)
    go None = refl
    go (Some (Exited reason)) = refl
    go (Some (Live x)) = comes_if (can_expire x) (Ok (Ok (record { life = Some (Live (expired x)); child = None; posts = []; takes = false; shows = None }))) tt

-- the world
answer : Bool → State → Result (State × Unit {0}) Fault
answer b v = unless_refused (if b then None else Some NotEnabled) v

pinned_is : (p : ℕ) (turn : Turn) → trap_of p turn ≡ pinned p (trap_in turn)
pinned_is p turns.Ran = refl
pinned_is p (turns.Ended reason) = refl
pinned_is p (turns.Trapped kind) = refl
pinned_is p (turns.Spawns spawn) = refl

answered_as : (c : Choice) (w : State) (b : Bool) (r : Result Among Fault) (x : Coming) → ComesAs b x → Mirrors c w r x → answer b (after c w x) ≡ world_if (actor c) (tell r)
unfolding answer
answered_as c w true (Ok (v, turn)) (Ok comes) h m =
    ap (λ (u : State). Ok (u, tt)) (sym m) ∙ ap (λ t. Ok (record { processes = v.0; lanes = v.1; trap = t }, tt)) (pinned_is (actor c) turn)
answered_as c w true (Err fault) (Ok comes) h m = absurd m
answered_as c w true r (Err none) h m = absurd h
answered_as c w false r (Ok comes) h m = absurd h
answered_as c w false (Ok among) (Err none) h m = absurd m
answered_as c w false (Err fault) (Err none) h m = refl

-- what a choice makes is what the world becomes
pub applied_is : (image : Loaded) (c : Choice) (w : State) → w.trap ≡ None → applied image c w ≡ world_if (actor c) (tell (made image c w.processes w.lanes))
applied_is image c w free =
    let x = coming image c w in
    let b = able c w.processes w.lanes in
    let refused : applied image c w ≡ answer b (chosen image c w) =
    ap (λ (t : Option (Trap × ℕ)). unless_refused (if is_some t then Some Halted else if is_none t && b then None else Some NotEnabled) (chosen image c w)) free ∙ (unfold answer in refl) in
    refused ∙ answered_as c w b (made image c w.processes w.lanes) x (comes_as image c w) (made_mirrors image w c)

pub can_is : (choice : Choice) (w : State) → w.trap ≡ None → IsTrue (able choice w.processes w.lanes) → IsTrue (can w choice)
can_is choice w free can = ap (λ t. is_none t && able choice w.processes w.lanes) free ∙ can

-- ---- runs, and answers of spawns

-- a run that was done could be made
run_able : (image : Loaded) (p : ℕ) (l : Lanes) (lives : List Life) (o : Option Life) (among : Among) → at_life (life_run image p l) p lives o ≡ Ok among → IsTrue (may_at may_run o)
run_able image p l lives None among is = cc
run_able image p l lives (Some (Exited reason)) among is = cc
run_able image p l lives (Some (Live x)) among is = go (can_run x) is
  where
    go : (b : Bool) → put_back p lives (if b then Ok (lived (runs image p l x)) else Err NotEnabled) ≡ Ok among → IsTrue b
    go true e = refl
    go false e = cc

pub run_was_able : (image : Loaded) (p : ℕ) (l : Lanes) (lives : List Life) (among : Among) → lives_run image p l lives ≡ Ok among → IsTrue (may_at may_run (slice_get lives p))
run_was_able image p l lives among is = run_able image p l lives (slice_get lives p) among is

-- what leaves everything as it was
abbrev pub KeptIf : (Turn → Bool) → List Life × Lanes → Result Among Fault → Type 0
KeptIf of before (Ok (after, turn)) = of turn ≡ true → after ≡ before
KeptIf of before (Err fault) = Unit {0}

abbrev pub is_trap : Turn → Bool
is_trap turn = is_undone (Ok turn)

abbrev is_spawn : Turn → Bool
is_spawn turns.Ran = false
is_spawn (turns.Ended reason) = false
is_spawn (turns.Trapped kind) = false
is_spawn (turns.Spawns spawn) = true

-- a trap does
whole_kept : (p : ℕ) (lives : List Life) (l : Lanes) (x : Process) (w : Process × Lanes) (turn : Turn) → slice_get lives p ≡ Some (Live x) → KeptIf is_trap (lives, l) (put_back p lives (Ok (lived (whole (x, l) (w, turn)))))
whole_kept p lives l x w turns.Ran at = λ h. cc
whole_kept p lives l x w (turns.Ended reason) at = λ h. cc
whole_kept p lives l x w (turns.Trapped kind) at = λ h. ap (λ (more : List Life). (more, l)) (set_back lives p (Live x) at)
whole_kept p lives l x w (turns.Spawns spawn) at = λ h. cc

pub answered_kept : (image : Loaded) (p child : ℕ) (linked : Bool) (l : Lanes) (lives : List Life) → KeptIf is_trap (lives, l) (lives_acted image p (Spawned child linked) l lives)
answered_kept image p child linked l lives = go (slice_get lives p) refl
  where
    go : (o : Option Life) → slice_get lives p ≡ o → KeptIf is_trap (lives, l) (acted_at image p (Spawned child linked) l lives o)
    go None at = tt
    go (Some (Exited reason)) at = tt
    go (Some (Live x)) at = let d = done (Run p) l (is_answered image (other_if linked child) (Value (pid child)) x) in whole_kept p lives l x d.0 d.1 at

-- and a run that asks for a spawn
spawning_kept : (image : Loaded) (p : ℕ) (l : Lanes) (lives : List Life) (o : Option Life) → slice_get lives p ≡ o → KeptIf is_spawn (lives, l) (at_life (life_run image p l) p lives o)
spawning_kept image p l lives None at = tt
spawning_kept image p l lives (Some (Exited reason)) at = tt
spawning_kept image p l lives (Some (Live x)) at = go (can_run x)
  where
    by_turn : (d : Deed) (turn : Turn) → d.turn ≡ turn → ((spawn : SpawnRequest) → turn ≡ turns.Spawns spawn → d ≡ alone x (turns.Spawns spawn))
        → KeptIf is_spawn (lives, l) (put_back p lives (Ok (lived (whole (x, l) (done (Run p) l (record d { turn = turn }))))))
    by_turn d turns.Ran is only = λ h. cc
    by_turn d (turns.Ended reason) is only = λ h. cc
    by_turn d (turns.Trapped kind) is only = λ h. cc
    by_turn d (turns.Spawns spawn) is only =
        λ h. ap (λ (e : Deed). (slice_set lives p (Live e.process), (done (Run p) l e).0.1)) (only spawn refl) ∙ ap (λ (more : List Life). (more, l)) (set_back lives p (Live x) at)

    go : (b : Bool) → KeptIf is_spawn (lives, l) (put_back p lives (if b then Ok (lived (runs image p l x)) else Err NotEnabled))
    go true =
        let d = instruction image p x in
        by_turn d d.turn refl (λ spawn is. spawns_alone image p x (requests.Spawn spawn) (subst (Spawns (asked image p x)) is (spawns image p x)))
    go false = tt

pub spawns_kept : (image : Loaded) (p : ℕ) (l : Lanes) (lives : List Life) (w : List Life × Lanes) (spawn : SpawnRequest) → lives_run image p l lives ≡ Ok (w, turns.Spawns spawn) → w ≡ (lives, l)
spawns_kept image p l lives w spawn is = subst (KeptIf is_spawn (lives, l)) is (spawning_kept image p l lives (slice_get lives p) refl) refl
