use Rattle.std.proofs.Common.{◌≡◌, refl, sym, ap, subst, ◌∙◌, arith}
use Rattle.std.specs.Prelude.{IsTrue}
use Rattle.bx_plan.specs.declared.chains.Head.{Head}
use Rattle.bx_plan.specs.Chains.{above}
use Rattle.bx_board.specs.Jobs.{chain_end}
use Rattle.bx_board.specs.Kept.{Kept}
use Rattle.bx_board.specs.Machine.{is_free}
use Rattle.bx_board.specs.Tended.{kept_view}
use Rattle.bx_board.proofs.Holding.{kept_there, seen_long}
use Rattle.bx_board.proofs.Places.{leased_from}
use Rattle.bx_board.proofs.Steps.{done_not_waiting, free_is, is_true, not_waiting_within}
use Rattle.bx_board.proofs.books.Book.lease_of.Goals as goal

pub index-requires : goal.index-requires
index-requires c =
    let i = c.self.inside in
    let b = kept_view i.image.now i.start i.plan.now i.chains i.stands.items i.stopped in
    let was = free_is b.job b.state c.args.chain (is_true _ (subst (λ (k : Kept). IsTrue (is_free k.job k.state c.args.chain)) (sym c.self.view_is) c.requires)) in
    omega (arith, i.stands.ok.0, seen_long c.self.invariant.2 refl, ap (λ (h : Head). h.above) c.head-head.ensures, not_waiting_within b.state (above i.chains c.args.chain) (done_not_waiting _ was.born))

pub index-requires-2 : goal.index-requires-2
index-requires-2 c =
    let i = c.self.inside in
    let b = kept_view i.image.now i.start i.plan.now i.chains i.stands.items i.stopped in
    let was = free_is b.job b.state c.args.chain (is_true _ (subst (λ (k : Kept). IsTrue (is_free k.job k.state c.args.chain)) (sym c.self.view_is) c.requires)) in
    omega (arith, i.endings.ok.0, seen_long c.self.invariant.2 refl, c.self.invariant.3, was.within)

pub unreachable-requires : goal.unreachable-requires
unreachable-requires c =
    let free = is_true _ (subst (λ (k : Kept). IsTrue (is_free k.job k.state c.args.chain)) (sym c.self.view_is) c.requires) in
    let kept = kept_there c.self.invariant.2 refl c.self.invariant.0.kept c.args.chain c.head-head.result c.index.result.now free c.head-head.ensures c.index.ensures in
    let none = c.in_default.ensures in
    cc

pub invariant_of-result : goal.invariant_of-result
invariant_of-result c =
    let i = c.self.inside in
    let b = kept_view i.image.now i.start i.plan.now i.chains i.stands.items i.stopped in
    let free = is_true _ (subst (λ (k : Kept). IsTrue (is_free k.job k.state c.args.chain)) (sym c.self.view_is) c.requires) in
    let kept = kept_there c.self.invariant.2 refl c.self.invariant.0.kept c.args.chain c.head-head.result c.index.result.now free c.head-head.ensures c.index.ensures in
    let some = c.in-Some.ensures in
    let same : c.in-Some.end.now ≡ chain_end b.job (above i.chains c.args.chain) = cc in
    let both = leased_from b c.self.invariant.0.kept c.args.chain free in
    rw c.head-head.ensures (both.0, c.in_ok-from.ensures ∙ same ∙ both.1)
