-- Choices that are independent one way are independent the other way: each stays enabled beside the other.
use Rattle.bx_world.proofs.Words.{◌≡◌, ◌≢◌, ℕ, ◌<◌, [], ◌∷◌, true, Option, Some, None, length, refl, sym, ap, ◌∙◌, ◌&&◌, is_some, is_none, if◌then◌else◌, Trap, Loaded, Choice, Run, Deliver}
use Rattle.bx_world.proofs.Words.{Expire, State, able, can, actor, may_at, may_run, may_expire, chosen, behind, all_behind, runs_local, one_is_local, AreIndependent, IsLocal}
use Rattle.std.proofs.Math.Bool.{or_comm}
use Rattle.bx_world.proofs.Confined.{chosen_confined}
use Rattle.bx_world.proofs.Commuting.{able_of, can_from, local_coming, trap_alike, b_trap, first_stays, may_within, one_then, finds_again, untouched, beside_any}

-- a choice stays enabled behind one of another actor that does not trap
pub stays_enabled : (image : Loaded) (c d : Choice) (w : State) → actor c ≢ actor d → can w c ≡ true → (chosen image c w).trap ≡ None → can w d ≡ true → can (chosen image c w) d ≡ true
stays_enabled image c (Run p) w apart enabled runs also =
    let may = able_of w (Run p) also in
    can_from (chosen image c w) (Run p) runs (ap (may_at may_run) ((chosen_confined image c w).2 p (λ e. apart (sym e)) (may_within may_run w p may)) ∙ may)
stays_enabled image c (Deliver p q) w apart enabled runs also =
    let may = able_of w (Deliver p q) also in
    can_from (chosen image c w) (Deliver p q) runs (ap (λ o. is_some o) (first_stays image c w enabled (p, q) (λ e. apart (sym e)) may) ∙ may)
stays_enabled image c (Expire p) w apart enabled runs also =
    let may = able_of w (Expire p) also in
    can_from (chosen image c w) (Expire p) runs (ap (may_at may_expire) ((chosen_confined image c w).2 p (λ e. apart (sym e)) (may_within may_expire w p may)) ∙ may)

local_turned : (image : Loaded) (w : State) (a b : Choice) → one_is_local image w a b ≡ one_is_local image w b a
local_turned image w (Run p) (Run q) = or_comm (runs_local image p w) (runs_local image q w)
local_turned image w (Run p) (Deliver r s) = refl
local_turned image w (Run p) (Expire r) = refl
local_turned image w (Deliver p q) (Run r) = refl
local_turned image w (Deliver p q) (Deliver r s) = refl
local_turned image w (Deliver p q) (Expire r) = refl
local_turned image w (Expire p) (Run r) = refl
local_turned image w (Expire p) (Deliver r s) = refl
local_turned image w (Expire p) (Expire r) = refl

module _ (image : Loaded) (w : State) (a b : Choice) (is : AreIndependent image w a b) where
  in_order : all_behind image (a ∷ b ∷ []) w ≡ chosen image b (chosen image a w)
  in_order = one_then image a b w is.first_enabled is.second_applied

  -- the other order does not trap at once: nothing would happen behind that
  turned_runs : (chosen image b w).trap ≡ None
  turned_runs = one (chosen image b w).trap refl where
    one : (t : Option (Trap × ℕ)) → (chosen image b w).trap ≡ t → (chosen image b w).trap ≡ None
    one None e = e
    one (Some t) e =
        let stuck : all_behind image (b ∷ a ∷ []) w ≡ chosen image b w =
        ap (λ c. behind image a (if c then chosen image b w else w)) is.second_enabled
        ∙ ap (λ (u : Option (Trap × ℕ)). if is_none u && able a (chosen image b w).processes (chosen image b w).lanes then chosen image a (chosen image b w) else chosen image b w) e in
        let trap : None ≡ Some t = sym is.second_runs ∙ ap (λ (v : State). v.trap) (sym in_order ∙ is.same ∙ stuck) ∙ e in
        cc

  turned_applied : can (chosen image b w) a ≡ true
  turned_applied = stays_enabled image b a w (λ e. is.apart (sym e)) is.second_enabled turned_runs is.first_enabled

  in_turn : all_behind image (b ∷ a ∷ []) w ≡ chosen image a (chosen image b w)
  in_turn = one_then image b a w is.second_enabled turned_applied

  pub same_world : chosen image b (chosen image a w) ≡ chosen image a (chosen image b w)
  same_world = sym in_order ∙ is.same ∙ in_turn

  pub either_way : AreIndependent image w b a
  either_way = record {
    first_enabled = is.second_enabled;
    second_enabled = is.first_enabled;
    first_runs = turned_runs;
    second_applied = turned_applied;
    second_runs = ap (λ (v : State). v.trap) (sym same_world) ∙ is.second_runs;
    apart = λ e. is.apart (sym e);
    local = sym (local_turned image w a b) ∙ is.local;
    same = sym is.same;
  }

-- any choice, and then one that is local
pub any_beside : (image : Loaded) (b a : Choice) (w : State) → IsLocal image w a → actor a < length w.processes → actor b ≢ actor a → can w b ≡ true → can w a ≡ true → (chosen image b w).trap ≡ None → (chosen image a (chosen image b w)).trap ≡ None → AreIndependent image w b a
any_beside image b a w local there apart can_b can_a b_runs a_last =
    let flipped : actor a ≢ actor b = λ e. apart (sym e) in
    let finds = finds_again image b a w (untouched image b w w (actor a) flipped there refl) apart can_b can_a in
    let a_runs : (chosen image a w).trap ≡ None = trap_alike image a w (chosen image b w) can_a (local_coming image a w (chosen image b w) local finds) ∙ a_last in
    either_way image w a b (beside_any image a b w local there flipped can_a can_b a_runs (sym (b_trap image a b w local flipped can_a can_b) ∙ b_runs))
