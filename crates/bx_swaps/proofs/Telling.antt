-- Exchanges that are told by tests.
use Rattle.bx_swaps.proofs.Words.{◌≡◌, ◌∙◌, ℕ, Bool, true, false, ◌==◌, not, List, [], ◌∷◌, Option, Some, None, drop, eq-eqb, refl, sym, ap, subst, Loaded, Choice, actor, can, Ended, State, Course, reached}
use Rattle.bx_swaps.proofs.Words.{MayExchange, may_exchange}
use Rattle.std.proofs.Common.{◌≢◌, ◌&&◌}
use Rattle.std.specs.Prelude.{is_none}
use Rattle.std.proofs.lemmas.Bool.{and_from, and_parts, eqb-true}
use base.Stored.{Gv, gnil, gnum, gcons}
use Rattle.bx_world.specs.Independent.{AreIndependent, one_is_local}
use Rattle.bx_world.specs.Choosing.{chosen}
use Rattle.bx_world.specs.Posting.{all_behind}
use Rattle.bx_replay.specs.Exchanges.{NextIndependent}
use Rattle.bx_swaps.specs.Telling.{are_independent, both_run, code_eq, may_go_first, next_independent, world_code, world_eq}

same_code : (a b : Gv) → code_eq a b ≡ true → a ≡ b
same_code gnil gnil e = refl
same_code gnil (gnum n) e = absurd (cc)
same_code gnil (gcons c d) e = absurd (cc)
same_code (gnum m) gnil e = absurd (cc)
same_code (gnum m) (gnum n) e = ap gnum (eqb-true m n e)
same_code (gnum m) (gcons c d) e = absurd (cc)
same_code (gcons a b) gnil e = absurd (cc)
same_code (gcons a b) (gnum n) e = absurd (cc)
same_code (gcons a b) (gcons c d) e =
    let parts = and_parts (code_eq a c) (code_eq b d) e in
    ap (λ x. gcons x b) (same_code a c parts.0) ∙ ap (λ x. gcons c x) (same_code b d parts.1)

code_same : (a : Gv) → code_eq a a ≡ true
code_same gnil = refl
code_same (gnum n) = eq-eqb n n refl
code_same (gcons a b) = and_from (code_eq a a) (code_eq b b) (code_same a) (code_same b)

same_world : (v w : State) → world_eq v w ≡ true → v ≡ w
unfolding world_eq
same_world v w e = world_code.inj v w (same_code (world_code.code v) (world_code.code w) e)

world_same : (v w : State) → v ≡ w → world_eq v w ≡ true
unfolding world_eq
world_same v w e = subst (λ (x : State). world_eq v x ≡ true) e (code_same (world_code.code v))

none_tells : {A : Type 0} (o : Option A) → is_none o ≡ true → o ≡ None
none_tells None e = refl
none_tells (Some x) e = absurd (cc)

tells_none : {A : Type 0} (o : Option A) → o ≡ None → is_none o ≡ true
tells_none o e = ap is_none e

apart_tells : (m n : ℕ) → not (m == n) ≡ true → m ≢ n
apart_tells m n e same = let yes : (m == n) ≡ true = eq-eqb m n same in let false_is : not true ≡ true = ap not (sym yes) ∙ e in absurd (cc)

not_equal : (b : Bool) → (b ≡ true → ⊥) → not b ≡ true
not_equal true never_is = absurd (never_is refl)
not_equal false never_is = refl

tells_apart : (m n : ℕ) → m ≢ n → not (m == n) ≡ true
tells_apart m n apart = not_equal (m == n) (λ e. apart (eqb-true m n e))

independent_so : (image : Loaded) (w : State) (first second : Choice) → are_independent image w first second ≡ true → AreIndependent image w first second
independent_so image w first second e =
    let next = chosen image first w in
    let one = all_behind image (first ∷ second ∷ []) w in
    let other = all_behind image (second ∷ first ∷ []) w in
    let here = and_parts (may_go_first image w first second) (both_run image w first second && world_eq one other) e in
    let behind = and_parts (both_run image w first second) (world_eq one other) here.1 in
    let go1 = and_parts (can w first) (can w second && (not (actor first == actor second) && one_is_local image w first second)) here.0 in
    let go2 = and_parts (can w second) (not (actor first == actor second) && one_is_local image w first second) go1.1 in
    let go3 = and_parts (not (actor first == actor second)) (one_is_local image w first second) go2.1 in
    let run1 = and_parts (is_none next.trap) (can next second && is_none (chosen image second next).trap) behind.0 in
    let run2 = and_parts (can next second) (is_none (chosen image second next).trap) run1.1 in
    record {
      first_enabled = go1.0;
      second_enabled = go2.0;
      first_runs = none_tells next.trap run1.0;
      second_applied = run2.0;
      second_runs = none_tells (chosen image second next).trap run2.1;
      apart = apart_tells (actor first) (actor second) go3.0;
      local = go3.1;
      same = same_world one other behind.1;
    }

so_independent : (image : Loaded) (w : State) (first second : Choice) → AreIndependent image w first second → are_independent image w first second ≡ true
so_independent image w first second h =
    let next = chosen image first w in
    let one = all_behind image (first ∷ second ∷ []) w in
    let other = all_behind image (second ∷ first ∷ []) w in
    let go3 = and_from (not (actor first == actor second)) (one_is_local image w first second) (tells_apart (actor first) (actor second) h.apart) h.local in
    let go2 = and_from (can w second) (not (actor first == actor second) && one_is_local image w first second) h.second_enabled go3 in
    let go1 = and_from (can w first) (can w second && (not (actor first == actor second) && one_is_local image w first second)) h.first_enabled go2 in
    let run2 = and_from (can next second) (is_none (chosen image second next).trap) h.second_applied (tells_none (chosen image second next).trap h.second_runs) in
    let run1 = and_from (is_none next.trap) (can next second && is_none (chosen image second next).trap) (tells_none next.trap h.first_runs) run2 in
    let behind = and_from (both_run image w first second) (world_eq one other) run1 (world_same one other h.same) in
    and_from (may_go_first image w first second) (both_run image w first second && world_eq one other) go1 behind

next_so : (image : Loaded) (end : Ended) (choices : List Choice) → next_independent image end choices ≡ true → NextIndependent image end choices
next_so image end [] e = absurd (cc)
next_so image end (choice ∷ []) e = absurd (cc)
next_so image end (first ∷ second ∷ more) e =
    let parts = and_parts (is_none end.refused) (are_independent image end.world first second) e in
    (none_tells end.refused parts.0, independent_so image end.world first second parts.1)

so_next : (image : Loaded) (end : Ended) (choices : List Choice) → NextIndependent image end choices → next_independent image end choices ≡ true
so_next image end [] h = absurd h
so_next image end (choice ∷ []) h = absurd h
so_next image end (first ∷ second ∷ more) h =
    and_from (is_none end.refused) (are_independent image end.world first second) (tells_none end.refused h.0) (so_independent image end.world first second h.1)

pub may_so : (i : ℕ) (course : Course) → may_exchange i course ≡ true → MayExchange i course
may_so i course e = next_so course.image (reached i course) (drop i course.choices) e

pub so_may : (i : ℕ) (course : Course) → MayExchange i course → may_exchange i course ≡ true
so_may i course h = so_next course.image (reached i course) (drop i course.choices) h
