-- A choice finds the same where nothing but what it takes is on its way, so it does the same there.
use Rattle.bx_world.proofs.Words.{◌≡◌, [], ◌∷◌, ◌++◌, Option, Some, None, Ok, Err, length, refl, sym, ap, ◌∙◌, IsTrue, ◌&&◌, is_some, is_none, if◌then◌else◌, slice_get, Does, Fault, NotEnabled, Halted, Memory}
use Rattle.bx_world.proofs.Words.{Loaded, first, Channels, waiting, Signal, waiting_empty, Choice, Run, Deliver, Expire, State, able, can, actor, change_of, heeds, coming, after, chosen, unless_refused, applied}
use Rattle.bx_terms.specs.Outcomes.{Gives}
use Rattle.bx_signals.proofs.Maps.{waiting_same}
use Rattle.bx_world.specs.Choosing.{refusal, put_alone, bare, shown_if, shown_alone}

heeds_alone : (c : Choice) (o : Option Signal) (m : Channels Signal) → heeds c m ≡ o → heeds c (put_alone c o) ≡ o
heeds_alone (Run p) o m is = is
heeds_alone (Deliver p q) None m is = ap first (waiting_empty (p, q))
heeds_alone (Deliver p q) (Some s) m is = ap first (waiting_same p q (waiting (put_alone (Run p) None) (p, q) ++ s ∷ []) (put_alone (Run p) None) ∙ ap (λ ss. ss ++ s ∷ []) (waiting_empty (p, q)))
heeds_alone (Expire p) o m is = is

heeds_same : (c : Choice) (w : State) → heeds c (bare c w).lanes.channels ≡ heeds c w.lanes.channels
heeds_same c w = heeds_alone c (heeds c w.lanes.channels) w.lanes.channels refl

able_same : (c : Choice) (w : State) → able c (bare c w).processes (bare c w).lanes ≡ able c w.processes w.lanes
able_same (Run p) w = refl
able_same (Deliver p q) w = ap (λ o. is_some o) (heeds_same (Deliver p q) w)
able_same (Expire p) w = refl

-- its change is the same
pub coming_same : (image : Loaded) (c : Choice) (w : State) → coming image c (bare c w) ≡ coming image c w
coming_same image c w = ap (change_of image c (slice_get w.processes (actor c)) (length w.processes)) (heeds_same c w)

refused_same : (c : Choice) (w : State) → refusal (bare c w) c ≡ refusal w c
refused_same c w = ap (λ b. if is_some w.trap then Some Halted else if is_none w.trap && b then None else Some NotEnabled) (able_same c w)

applied_same : (image : Loaded) (c : Choice) (w : State) → applied image c (bare c w) ≡ unless_refused (refusal w c) (after c (bare c w) (coming image c w))
applied_same image c w = ap (λ o. unless_refused o (chosen image c (bare c w))) (refused_same c w) ∙ ap (λ x. unless_refused (refusal w c) (after c (bare c w) x)) (coming_same image c w)

shown : (o : Option Fault) (v new : State) → unless_refused o v ≡ Ok (new, tt) → shown_if o v ≡ Ok new
shown None v new is = let both : ◌≡◌ {A = State × Unit {0}} (v, tt) (new, tt) = cc in ap (λ (d : State × Unit {0}). Ok d.0) both
shown (Some fault) v new is = cc

pub done_alone : (image : Loaded) (c : Choice) (w old new : State) → old ≡ bare c w → applied image c old ≡ Ok (new, tt) → shown_alone image c w ≡ Ok new
done_alone image c w old new is did =
    shown (refusal w c) (after c (bare c w) (coming image c w)) new (sym (applied_same image c w) ∙ ap (applied image c) (sym is) ∙ did)

failed : (o : Option Fault) (v : State) (fault : Fault) → unless_refused o v ≡ Err fault → shown_if o v ≡ Err fault
failed None v fault is = cc
failed (Some other) v fault is = let same : other ≡ fault = cc in ap Err same

pub lacked_alone : (image : Loaded) (c : Choice) (w old new : State) (fault : Fault) → old ≡ bare c w → IsTrue (can w c) → Does {A = Unit {0}} (IsTrue (can old c)) old new (Err fault) (applied image c old)
    → Gives {X = State} {A = State} (IsTrue (can w c)) (λ v. v) (Err fault) (shown_alone image c w)
lacked_alone image c w old new Memory is can_there h = can_there
lacked_alone image c w old new fault is can_there h =
    failed (refusal w c) (after c (bare c w) (coming image c w)) fault (sym (applied_same image c w) ∙ ap (applied image c) (sym is) ∙ h.0)
