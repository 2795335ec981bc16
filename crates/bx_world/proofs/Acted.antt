-- What is asked of one process, carried to its life and to the others.
use Rattle.bx_world.proofs.Words.{◌≡◌, ◌≢◌, ◌<◌, ℕ, true, false, length, get_or, map, refl, ap, sym, subst, ◌∙◌, Bool, option_map, List, Some, Result, Ok, Err, slice_get, if◌then◌else◌, set, map-set_same, Tree}
use Rattle.bx_world.proofs.Words.{Does, Fault, NotEnabled, Memory, Place, Loaded, Process, can_run, Lanes, life, Turn, Life, Live, Exited, lived, lived_if, exited_if, put_back, life_acted, acted_at, lives_acted}
use Rattle.bx_world.proofs.Words.{MayLack}
use Rattle.std.proofs.lemmas.Option.{slice_get-map, slice_get-get_or}
use Rattle.std.proofs.lemmas.List.{map-set}
use Rattle.bx_proc.specs.Process.{can_run_in}
use Rattle.bx_proc.specs.Stepping.{StandsFree}
use Rattle.bx_world.specs.declared.acts.Act.{Act}
use Rattle.bx_world.specs.declared.slots.Slot.{Slot}
use Rattle.bx_world.specs.declared.slots.Slot.TheVariants as slots
use Rattle.bx_world.specs.declared.turns.Turn.TheVariants as turns
use Rattle.bx_world.specs.Acting.{process_acted, exited_acted}
use Rattle.bx_world.proofs.Changing.{does_through, err_through}

-- the life that is seen at a place
pub seen_at : {S : Type 0} (f : S → Life) (xs : List S) (p : ℕ) (x : S) → p < length xs → x ≡ get_or xs p x → slice_get (map f xs) p ≡ Some (f x)
seen_at f xs p x here is = slice_get-map f xs p ∙ ap (option_map f) (slice_get-get_or xs p x here) ∙ ap (λ y. Some (f y)) (sym is)

-- what is done where it is enabled
pub where_able : {S A : Type 0} (old new : S) (r : Result A Fault) (done : S × A) (b : Bool) → b ≡ true → Does {S = S} {A = A} (Unit {0}) old new r (Ok done)
    → Does {S = S} {A = A} (b ≡ true) old new r (if b then Ok done else Err NotEnabled)
where_able old new r done false able h = absurd (cc)
where_able old new (Ok x) done true able h = h
where_able old new (Err Memory) done true able h = (able, h.1)
where_able old new (Err fault) done true able h = h

-- a slot in which no process lives any more
pub only_exited : {P : Type 0} (shown : P → Process) (s : Slot P) (D : Life → Type 0) → ((h : P) → s ≢ slots.Live h) → ((reason : Tree) → D (Exited reason)) → D (life shown s)
only_exited shown (slots.Live h) D dead f = absurd (dead h refl)
only_exited shown (slots.Exited reason) D dead f = f reason

-- a process that is free to run can run
pub free_runs : (here : Place) (x : Process) → StandsFree here x → can_run x ≡ true
free_runs here x free = ap (λ s. can_run_in s x.mailbox) free.0

module _ (image : Loaded) (p : ℕ) where
  living : (w : Process × Lanes) (turn : Turn) → ((reason : Tree) → turn ≢ turns.Ended reason) → lived (w, turn) ≡ ((Live w.0, w.1), turn)
  living w turns.Ran other = refl
  living w (turns.Ended reason) other = absurd (other reason refl)
  living w (turns.Trapped kind) other = refl
  living w (turns.Spawns spawn) other = refl

  pub went : (act : Act) (x y : Process) (l m : Lanes) (turn : Turn) → ((reason : Tree) → turn ≢ turns.Ended reason) → process_acted image p act l x ≡ Ok ((y, m), turn)
      → life_acted image p act l (Live x) ≡ Ok ((Live y, m), turn)
  went act x y l m turn other is = ap lived_if is ∙ ap Ok (living (y, m) turn other)

  pub ended : (act : Act) (x y : Process) (l m : Lanes) (reason : Tree) → process_acted image p act l x ≡ Ok ((y, m), turns.Ended reason)
      → life_acted image p act l (Live x) ≡ Ok ((Exited reason, m), turns.Ran)
  ended act x y l m reason is = ap lived_if is

  pub exited_went : (act : Act) (reason : Tree) (l m : Lanes) → exited_acted act p l ≡ Ok (m, tt) → life_acted image p act l (Exited reason) ≡ Ok ((Exited reason, m), turns.Ran)
  exited_went act reason l m is = ap (exited_if reason) is

  pub exited_refused : (act : Act) (reason : Tree) (l m : Lanes) (takes : Type 0) (f : Fault) → Does {A = Unit {0}} takes l m (Err f) (exited_acted act p l)
      → Does {A = Turn} takes (Exited reason, l) (Exited reason, m) (Err f) (life_acted image p act l (Exited reason))
  exited_refused act reason l m takes f h =
      err_through takes takes l m (Exited reason, l) (Exited reason, m) f (exited_acted act p l) (life_acted image p act l (Exited reason)) (λ t. t) (λ fault said. ap (exited_if reason) said)
      (λ same. ap (λ (n : Lanes). (Exited reason, n)) same) h

  -- among the others
  pub acted_among : {S : Type 0} (f : S → Life) (act : Act) (xs : List S) (x y : S) (old new : Lanes) (r : Result Turn Fault) → p < length xs → x ≡ get_or xs p x
      → Does (MayLack act p old (Some (f x))) (f x, old) (f y, new) r (life_acted image p act old (f x))
      → Does (MayLack act p old (slice_get (map f xs) p)) (map f xs, old) (map f (set xs p y), new) r (lives_acted image p act old (map f xs))
  acted_among f act xs x y old new r here is did =
      let at = seen_at f xs p x here is in
      let all : lives_acted image p act old (map f xs) ≡ put_back p (map f xs) (life_acted image p act old (f x)) = ap (acted_at image p act old (map f xs)) at in
      does_through (MayLack act p old (Some (f x))) (MayLack act p old (slice_get (map f xs) p)) (f x, old) (f y, new) (map f xs, old) (map f (set xs p y), new) r
      (life_acted image p act old (f x)) (lives_acted image p act old (map f xs))
      (λ takes. subst (λ o. MayLack act p old o) (sym at) takes)
      (λ turn said. all ∙ ap (put_back p (map f xs)) said ∙ ap (λ lives. Ok ((lives, new), turn)) (sym (map-set f xs p y)))
      (λ fault said. all ∙ ap (put_back p (map f xs)) said)
      (λ same. let first = map-set_same f xs p y x (ap (λ (w : Life × Lanes). w.0) same ∙ ap f is) in let second = ap (λ (w : Life × Lanes). w.1) same in λ i. (first i, second i))
      did
