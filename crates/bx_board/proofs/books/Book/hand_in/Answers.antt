use Rattle.std.proofs.Common.{◌≡◌, ◌++◌, length, refl, sym, subst, ap, ◌∙◌, arith}
use Rattle.std.specs.List.{All}
use Rattle.std.proofs.lemmas.List.{length-set}
use Rattle.bx_plan.specs.declared.chains.Head.{Head}
use Rattle.bx_world.specs.Running.{Ended}
use Rattle.bx_board.specs.declared.books.stands.Stand.{Stand}
use Rattle.bx_board.specs.Jobs.{chain_end, end_of}
use Rattle.bx_board.specs.Kept.{Kept}
use Rattle.bx_board.specs.Machine.{Leased, standing}
use Rattle.bx_board.specs.Reported.{IsShown}
use Rattle.bx_board.specs.Stands.{kept_for}
use Rattle.bx_board.specs.Tended.{kept_view}
use Rattle.bx_board.proofs.Holding.{above_low, held_low, seen_long}
use Rattle.bx_board.proofs.Keeping.{kids_room, some_held, some_undone, submit_view, view_submit}
use Rattle.bx_board.proofs.books.Book.hand_in.Goals as goal

pub index_mut-requires : goal.index_mut-requires
index_mut-requires c =
    let had = subst (λ (b : Kept). standing b.state c.args.chain ≡ Leased c.args.worker) (sym c.self.view_is) c.requires.held in
    omega (arith, c.self.inside.stands.ok.0, above_low c.self.invariant.2 refl c.self.invariant.0.kept c.args.worker c.args.chain had, ap (λ (h : Head). h.above) c.head-head.ensures)

pub index_mut-requires-2 : goal.index_mut-requires-2
index_mut-requires-2 c =
    let had = subst (λ (b : Kept). standing b.state c.args.chain ≡ Leased c.args.worker) (sym c.self.view_is) c.requires.held in
    omega (arith, c.self.inside.stands.ok.0, held_low c.self.invariant.2 refl c.args.worker c.args.chain had)

pub overflow_sub-self : goal.overflow_sub-self
overflow_sub-self c =
    let had = subst (λ (b : Kept). standing b.state c.args.chain ≡ Leased c.args.worker) (sym c.self.view_is) c.requires.held in
    omega (arith, some_held c.self.invariant.0 c.args.worker c.args.chain had)

pub overflow_add-self : goal.overflow_add-self
overflow_add-self c =
    let had = subst (λ (b : Kept). standing b.state c.args.chain ≡ Leased c.args.worker) (sym c.self.view_is) c.requires.held in
    omega (arith, c.self.inside.stands.ok.0, seen_long c.self.invariant.2 refl, some_undone c.self.invariant.0 c.args.worker c.args.chain had)

pub push_all-requires : goal.push_all-requires
push_all-requires c =
    let had = subst (λ (b : Kept). standing b.state c.args.chain ≡ Leased c.args.worker) (sym c.self.view_is) c.requires.held in
    let room = kids_room c.self.invariant.0 c.args.worker c.args.chain c.remove-held.new.self had c.remove-held.ensures.updates in
    omega (arith, c.self.inside.ready.ok.0, room, ap length c.kids.ensures, c.self.invariant.1, seen_long c.self.invariant.2 refl)

pub invariant_of-self : goal.invariant_of-self
invariant_of-self c =
    let i = c.self.inside in
    let b = kept_view i.image.now i.start i.plan.now i.chains i.stands.items i.stopped in
    let had = subst (λ (k : Kept). standing k.state c.args.chain ≡ Leased c.args.worker) (sym c.self.view_is) c.requires.held in
    let ends : end_of c.args.piece ≡ chain_end b.job c.args.chain = subst (λ (k : Kept). end_of c.args.piece ≡ chain_end k.job c.args.chain) (sym c.self.view_is) c.requires.end in
    let told = subst (λ (e : Ended). All (IsShown e) c.into_parts-end.result.1.items) ends c.into_parts-end.ensures.told in
    let way = c.kept_for-way.ensures ∙ ap (λ (e : Ended). kept_for e (length c.kids-left.result.now)) (c.into_parts-end.ensures.end ∙ ends) ∙ ap (λ row. kept_for (chain_end b.job c.args.chain) (length row)) c.kids-left.ensures in
    let both =
    view_submit c.self.invariant.0 c.self.invariant.2 refl c.args.worker c.args.chain had c.head-head.result c.index_mut.result.now c.pass-above.new.self c.into_parts-end.result.1 c.kept_for-way.result.0 c.head-head.ensures c.index_mut.ensures.value c.pass-above.ensures
    c.push_all.new.ready.items c.remove-held.new.self (c.push_all.ensures.items ∙ ap (λ row. i.ready.items ++ row) c.kids.ensures) c.remove-held.ensures.updates told way in
    (both.0, omega (arith, length-set {A = Stand}, c.push_all.ensures.capacity, c.self.invariant.1), both.1, omega (arith, length-set {A = Stand}, c.self.invariant.3))

pub returns : goal.returns
returns c =
    let had = subst (λ (k : Kept). standing k.state c.args.chain ≡ Leased c.args.worker) (sym c.self.view_is) c.requires.held in
    rw (← c.self.view_is) (had, submit_view c.self.invariant.0 c.self.invariant.2 refl c.args.worker c.args.chain had c.head-head.result c.index_mut.result.now c.pass-above.new.self c.into_parts-end.result.1 c.kept_for-way.result.0 c.head-head.ensures c.index_mut.ensures.value c.pass-above.ensures)
