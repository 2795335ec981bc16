use Rattle.std.proofs.Common.{◌≡◌, refl, sym, subst, arith}
use Rattle.std.proofs.lemmas.List.{length-set}
use Rattle.bx_board.specs.declared.books.stands.Stand.TheVariants.{Waiting}
use Rattle.bx_board.specs.Kept.{Kept}
use Rattle.bx_board.specs.Machine.{Leased, standing}
use Rattle.bx_board.proofs.Holding.{held_low, seen_long, seen_set}
use Rattle.bx_board.proofs.Keeping.{room_one, some_held, view_back}
use Rattle.bx_board.proofs.books.Book.put_back.Goals as goal

pub overflow_sub-self : goal.overflow_sub-self
overflow_sub-self c =
    let had = subst (λ (b : Kept). standing b.state c.args.chain ≡ Leased c.args.worker) (sym c.self.view_is) c.requires in
    omega (arith, some_held c.self.invariant.0 c.args.worker c.args.chain had)

pub index_mut-requires : goal.index_mut-requires
index_mut-requires c =
    let had = subst (λ (b : Kept). standing b.state c.args.chain ≡ Leased c.args.worker) (sym c.self.view_is) c.requires in
    omega (arith, c.self.inside.stands.ok.0, held_low c.self.invariant.2 refl c.args.worker c.args.chain had)

pub push_reserved-requires : goal.push_reserved-requires
push_reserved-requires c =
    let i = c.self.inside in
    omega (arith, i.ready.ok.0, c.self.invariant.1, seen_long c.self.invariant.2 refl, room_one _ i.ready.items i.holders i.leased i.done c.self.invariant.0)

pub invariant_of-self : goal.invariant_of-self
invariant_of-self c =
    let i = c.self.inside in
    let had = subst (λ (b : Kept). standing b.state c.args.chain ≡ Leased c.args.worker) (sym c.self.view_is) c.requires in
    let both = view_back c.self.invariant.0 c.self.invariant.2 refl c.args.worker c.args.chain c.push_reserved.new.self.items c.remove-held.new.self had c.push_reserved.ensures.items c.remove-held.ensures.updates in
    let long = length-set i.stands.items c.args.chain Waiting in
    (both.0, omega (arith, c.push_reserved.ensures.capacity, c.self.invariant.1), both.1, omega (arith, c.self.invariant.3))

pub returns : goal.returns
returns c = rw (← c.self.view_is) (subst (λ (b : Kept). standing b.state c.args.chain ≡ Leased c.args.worker) (sym c.self.view_is) c.requires, seen_set c.self.invariant.2 refl c.args.chain Waiting)
