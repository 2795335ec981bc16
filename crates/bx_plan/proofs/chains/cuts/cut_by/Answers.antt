use Rattle.bx_plan.proofs.Words.{◌≡◌, [], ◌∷◌, Option, None, Some, append-nil, reverse, refl, sym, ap, ◌∙◌, MatchOption, reverse-append, marked, arith, common_steps}
use Rattle.bx_plan.proofs.Cutting.{marked_rise, taken_next}
use Rattle.bx_plan.proofs.chains.cuts.cut_by.Goals as goal

pub loop-depth-init : goal.loop-depth-init
loop-depth-init c = record { taken = []; whole = sym c.in_ok-mark.ensures ∙ sym (append-nil c.mark.new.marks.items); above = tt; order = refl }

pub loop-depth-preserved : goal.loop-depth-preserved
loop-depth-preserved c =
    let at = c.loop-depth in
    taken_next c.args.common c.in-Some.depth (marked c.args.marks.now.items c.args.length) at.marks.items c.pop_below.new.marks.items (reverse c.args.cuts.now.items) (reverse at.cuts.items) (reverse c.push.new.self.items)
    (marked_rise c.args.marks.now.items c.requires c.args.length) at.invariant c.in-Some.ensures.0 c.in-Some.ensures.1 (ap reverse c.in_ok-push.ensures.items ∙ reverse-append at.cuts.items (c.in-Some.depth ∷ []))

none_of : {X A : Type 0} (B : X → Type 0) (o : Option X) → MatchOption o A B → ((x : X) → o ≡ Some x → ⊥) → A
none_of B None a n = a
none_of B (Some x) b n = absurd (n x refl)

pub returns : goal.returns
returns c = grind (arith, common_steps, none_of)
