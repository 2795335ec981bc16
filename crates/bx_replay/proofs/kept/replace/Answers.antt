use Rattle.std.proofs.Common.{◌≡◌, ◌≢◌, ◌<◌, ◌-◌, ℕ, suc, length, refl, inl, inr, sym, ap, ◌∙◌, arith}
use Rattle.std.specs.Prelude.{slice_index_or, slice_set}
use Rattle.std.proofs.lemmas.Bool.{cases_eq}
use Rattle.std.proofs.lemmas.List.{get_or_default, get_or-set_same, get_or-set_other}
use Rattle.bx_world.specs.Running.{Ended}
use Rattle.bx_replay.specs.Keeping.{Parts}
use Rattle.bx_replay.specs.declared.kept.Kept.{Kept}
use Rattle.bx_replay.proofs.Keeps.{count_of, counts_set}
use Rattle.bx_replay.proofs.Turning.{others, replaced}
use Rattle.bx_replay.proofs.kept.replace.Goals.{After-within-count, else-count-gt0-via-then-count-gt0+else-count-end, else-count-gt0-via-else-count-gt0}
use Rattle.bx_replay.proofs.kept.replace.Goals as goal

in_parts : (c : After-within-count) → Parts c.args.kept.now.items c.args.end.applied c.within-count.result
in_parts c = rw (c.deref.ensures.value, ap (λ (e : Ended). e.applied) c.end.view_is) at c.within-count.ensures

pub returns-then-count-end-clause-counts : goal.returns-then-count-end-clause-counts
returns-then-count-end-clause-counts c =
    let parts = in_parts (goal.at.returns-then-count-end-clause-counts c).After-within-count in
    let kept = c.args.kept.now.items in
    let inside : c.within-count.result - 1 < length kept = omega (arith, parts.bound) in
    counts_set kept (c.within-count.result - 1) (record { end = c.args.end; next = c.index-then-count-end.result.now.next }) inside
    (λ d. ap count_of (get_or_default kept (c.within-count.result - 1) d c.index.result.now inside ∙ sym c.index.ensures) ∙ sym c.count.ensures ∙ c.if-count-end.true ∙ ap (λ (e : Ended). e.applied) c.end.view_is)

pub returns-then-count-end-clause-kept : goal.returns-then-count-end-clause-kept
returns-then-count-end-clause-kept c = λ old new are turns.
    let kept = c.args.kept.now.items in
    let at = c.within-count.result - 1 in
    let put : Kept = record { end = c.args.end; next = c.index-then-count-end.result.now.next } in
    let parts = in_parts (goal.at.returns-then-count-end-clause-kept c).After-within-count in
    replaced old new kept (slice_set kept at put) c.args.end are turns (returns-then-count-end-clause-counts c)
    (λ k d h. elim (cases_eq k at) [
      | inl here ↦ inl (ap (λ (k : Kept). k.end) (ap (λ n. slice_index_or (slice_set kept at put) n d) here ∙ get_or-set_same kept at put d (omega arith)))
      | inr ne ↦ inr (get_or-set_other kept at k put d ne, others old kept c.args.end.applied c.within-count.result are parts k d h (omega (arith, ne)))
    ])

pub returns-else-count-gt0-clause-counts : goal.returns-else-count-gt0-clause-counts
returns-else-count-gt0-clause-counts c = record { long = refl; same = λ k d h. refl }

pub returns-else-count-gt0-clause-kept : goal.returns-else-count-gt0-clause-kept
returns-else-count-gt0-clause-kept c = λ old new are turns.
    let kept = c.args.kept.now.items in
    let count = c.within-count.result in
    let parts = in_parts (goal.at.returns-else-count-gt0-clause-kept c).After-within-count in
    let applied = ap (λ (e : Ended). e.applied) c.end.view_is in
    let other : (k : ℕ) (d : Kept) → k < length kept → suc k ≡ count → count_of (slice_index_or kept k d) ≢ c.args.end.applied = elim c.else-count-gt0.branch [
      | else-count-gt0-via-then-count-gt0+else-count-end w ↦ λ k d h last same.
          let here : count - 1 ≡ k = omega (arith, last) in
          w.if-count-end.false (w.count.ensures ∙ ap count_of (w.index.ensures ∙ get_or_default kept (count - 1) w.index.result.now d (omega arith)) ∙ ap (λ n. count_of (slice_index_or kept n d)) here ∙ same ∙ sym applied)
      | else-count-gt0-via-else-count-gt0 w ↦ λ k d h last. absurd (omega arith)
    ] in
    replaced old new kept kept c.args.end are turns (returns-else-count-gt0-clause-counts c)
    (λ k d h. inr (refl, elim (cases_eq (suc k) count) [ inl last ↦ other k d h last | inr ne ↦ others old kept c.args.end.applied count are parts k d h ne ]))
