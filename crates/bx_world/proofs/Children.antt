-- A local choice and any other of another actor are independent where both orders leave the process of the local one the same: all else is then the
-- same by itself, even where that process is spawned by the other.
use Rattle.bx_world.proofs.Words.{◌≡◌, ◌≢◌, ℕ, ◌<◌, ◌≤◌, [], Bool, true, false, Option, Some, None, Ok, length, refl, sym, ap, ◌∙◌, arith, nat_lt, slice_get, Loaded, Channels, Signal, Choice, Run, Deliver}
use Rattle.bx_world.proofs.Words.{Expire, Turn, Life, Live, Exited, State, can, actor, may_run, may_expire, Deed, signalled, turned_to, signal_coming, heeds, coming, after, chosen, in_channel, first_of, put_by}
use Rattle.bx_world.proofs.Words.{taken_by, AreIndependent, IsLocal}
use Rattle.std.proofs.lemmas.Bool.{ltb-true, ltb-false}
use Rattle.std.proofs.lemmas.Option.{slice_get_within, slice_get_past}
use Rattle.bx_world.specs.declared.turns.Turn.TheVariants as turns
use Rattle.bx_world.proofs.Deeds.{Quiet, plain}
use Rattle.bx_world.proofs.Confined.{IsNotExited, get_set_same, chosen_confined}
use Rattle.bx_world.proofs.Commuting.{able_of, may_within, chosen_kept, takes_alike, first_stays, b_alike, b_first, may_exchange, beside_any}
use Rattle.bx_world.proofs.Orders.{stays_enabled, either_way}

-- a signal from p at q, whoever is there
module _ (p q : ℕ) (v : State) (pair : ℕ × ℕ) where
  -- a process that goes on as it was has sent nothing
  sent_none : (o : Option Life) (s : Option Signal) → slice_get v.processes q ≡ o → IsNotExited o → slice_get (after (Deliver p q) v (signal_coming p o s)).processes q ≡ o → put_by (Deliver p q) pair (signal_coming p o s) ≡ []
  sent_none o None there not stays = refl
  sent_none None (Some s) there not stays = refl
  sent_none (Some (Exited reason)) (Some s) there not stays = absurd not
  sent_none (Some (Live x)) (Some s) there not stays = let d = signalled p x s in one d d.turn (plain p x s).quiet stays
    where
      one : (d : Deed) (turn : Turn) → Quiet x turn d → slice_get (after (Deliver p q) v (Ok (turned_to turn None d))).processes q ≡ Some (Live x) → put_by (Deliver p q) pair (Ok (turned_to turn None d)) ≡ []
      one d turns.Ran quiet stays = ap (in_channel q pair) quiet.0
      one d (turns.Ended reason) quiet stays =
          let exited : Some (Exited reason) ≡ Some (Live x) = sym (get_set_same v.processes q (Exited reason) (slice_get_within v.processes q (Live x) there)) ∙ stays in cc
      one d (turns.Trapped kind) quiet stays = refl
      one d (turns.Spawns spawn) quiet stays = ap (in_channel q pair) quiet.0

  -- what is taken is the same for all that do not trap
  taken_same : (m : Channels Signal) (o : Option Life) (s : Option Signal) → (after (Deliver p q) v (signal_coming p o s)).trap ≡ None → taken_by (Deliver p q) pair m (signal_coming p o s) ≡ taken_by (Deliver p q) pair m (signal_coming p None s)
  taken_same m o None free = refl
  taken_same m None (Some s) free = refl
  taken_same m (Some (Exited reason)) (Some s) free = refl
  taken_same m (Some (Live x)) (Some s) free = let d = signalled p x s in one d d.turn (plain p x s).quiet free
    where
      one : (d : Deed) (turn : Turn) → Quiet x turn d → (after (Deliver p q) v (Ok (turned_to turn None d))).trap ≡ None → taken_by (Deliver p q) pair m (Ok (turned_to turn None d)) ≡ first_of (Deliver p q) true pair m
      one d turns.Ran quiet free = ap (λ b. first_of (Deliver p q) b pair m) quiet.1
      one d (turns.Ended reason) quiet free = ap (λ b. first_of (Deliver p q) b pair m) quiet
      one d (turns.Trapped kind) quiet free = cc
      one d (turns.Spawns spawn) quiet free = ap (λ b. first_of (Deliver p q) b pair m) quiet.1

-- a delivery to a pid that no process has at first
to_nobody : (image : Loaded) (p q : ℕ) (b : Choice) (w : State) → length w.processes ≤ q → q ≢ actor b → can w (Deliver p q) ≡ true → can w b ≡ true
    → (chosen image (Deliver p q) w).trap ≡ None → (chosen image b (chosen image (Deliver p q) w)).trap ≡ None → (chosen image (Deliver p q) (chosen image b w)).trap ≡ None
    → slice_get (chosen image b (chosen image (Deliver p q) w)).processes q ≡ slice_get (chosen image (Deliver p q) (chosen image b w)).processes q → AreIndependent image w (Deliver p q) b
to_nobody image p q b w past apart can_a can_b a_runs b_runs a_last here =
    let a = Deliver p q in
    let v = chosen image b w in
    let s = heeds a w.lanes.channels in
    let kept = chosen_kept image a w tt in
    let first = b_first image a b w tt apart can_a can_b a_runs b_runs in
    let waits = first_stays image b w can_b (p, q) apart (able_of w a can_a) in
    let gone = slice_get_past w.processes q past in
    let moved = b_alike image a b w tt apart can_a can_b q (gone ∙ sym (slice_get_past (chosen image a w).processes q (omega (arith, past, kept.count)))) in
    let nobody : coming image a w ≡ signal_coming p None s = ap (λ o. signal_coming p o s) gone in
    let none : (pair : ℕ × ℕ) → put_by a pair (signal_coming p None s) ≡ [] = λ pair. nothing p q pair s in
    may_exchange image a b w tt apart can_a can_b a_runs b_runs tt (stays_enabled image b a w (λ e. apart (sym e)) can_b first can_a) a_last here
    (λ pair. ap (put_by a pair) nobody ∙ none pair
    ∙ sym (sent_none p q v pair (slice_get v.processes q) (heeds a v.lanes.channels) refl ((chosen_confined image b w).3 q apart past) (sym here ∙ sym moved)))
    (λ pair. ap (taken_by a pair w.lanes.channels) nobody ∙ takes_alike a pair w.lanes.channels v.lanes.channels (signal_coming p None s) (sym waits)
    ∙ ap (λ t. taken_by a pair v.lanes.channels (signal_coming p None t)) (sym waits)
    ∙ sym (taken_same p q v pair v.lanes.channels (slice_get v.processes q) (heeds a v.lanes.channels) a_last))
  where
    nothing : (p q : ℕ) (pair : ℕ × ℕ) (s : Option Signal) → put_by (Deliver p q) pair (signal_coming p None s) ≡ []
    nothing p q pair None = refl
    nothing p q pair (Some s) = refl

past_all : (image : Loaded) (a b : Choice) (w : State) → length w.processes ≤ actor a → actor a ≢ actor b → can w a ≡ true → can w b ≡ true
    → (chosen image a w).trap ≡ None → (chosen image b (chosen image a w)).trap ≡ None → (chosen image a (chosen image b w)).trap ≡ None
    → slice_get (chosen image b (chosen image a w)).processes (actor a) ≡ slice_get (chosen image a (chosen image b w)).processes (actor a) → AreIndependent image w a b
past_all image (Run p) b w past apart can_a can_b a_runs b_runs a_last here = let there : p < length w.processes = may_within may_run w p (able_of w (Run p) can_a) in absurd (omega arith)
past_all image (Deliver p q) b w past apart can_a can_b a_runs b_runs a_last here = to_nobody image p q b w past apart can_a can_b a_runs b_runs a_last here
past_all image (Expire p) b w past apart can_a can_b a_runs b_runs a_last here = let there : p < length w.processes = may_within may_expire w p (able_of w (Expire p) can_a) in absurd (omega arith)

pub left_alike : (image : Loaded) (a b : Choice) (w : State) → IsLocal image w a → actor a ≢ actor b → can w a ≡ true → can w b ≡ true
    → (chosen image a w).trap ≡ None → (chosen image b (chosen image a w)).trap ≡ None → (chosen image a (chosen image b w)).trap ≡ None
    → slice_get (chosen image b (chosen image a w)).processes (actor a) ≡ slice_get (chosen image a (chosen image b w)).processes (actor a) → AreIndependent image w a b
left_alike image a b w local apart can_a can_b a_runs b_runs a_last here = one (nat_lt (actor a) (length w.processes)) refl where
  one : (less : Bool) → nat_lt (actor a) (length w.processes) ≡ less → AreIndependent image w a b
  one true h = beside_any image a b w local (ltb-true (actor a) (length w.processes) h) apart can_a can_b a_runs b_runs
  one false h = past_all image a b w (ltb-false (actor a) (length w.processes) h) apart can_a can_b a_runs b_runs a_last here

-- the local one is the second
pub second_left_alike : (image : Loaded) (a b : Choice) (w : State) → IsLocal image w b → actor a ≢ actor b → can w a ≡ true → can w b ≡ true
    → (chosen image b w).trap ≡ None → (chosen image b (chosen image a w)).trap ≡ None → (chosen image a (chosen image b w)).trap ≡ None
    → slice_get (chosen image b (chosen image a w)).processes (actor b) ≡ slice_get (chosen image a (chosen image b w)).processes (actor b) → AreIndependent image w a b
second_left_alike image a b w local apart can_a can_b b_runs b_last a_last here =
    either_way image w b a (left_alike image b a w local (λ e. apart (sym e)) can_b can_a b_runs a_last b_last (sym here))
