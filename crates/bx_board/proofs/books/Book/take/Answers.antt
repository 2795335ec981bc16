use Rattle.std.proofs.Common.{◌≡◌, ◌-◌, ◌++◌, ◌∷◌, [], length, take, vec_len, refl, sym, ap, subst, ◌∙◌, arith}
use Rattle.std.specs.Prelude.{None, Some, slice_get}
use Rattle.std.specs.Ordering.{nat_cmp}
use Rattle.std.specs.BTreeMap.{get}
use Rattle.std.proofs.lemmas.Bool.{both_ways}
use Rattle.std.proofs.lemmas.List.{length-set}
use Rattle.bx_board.specs.Kept.{Kept, MayLease}
use Rattle.bx_board.specs.Jobs.{work_of}
use Rattle.bx_board.specs.declared.books.stands.Stand.TheVariants as Stand
use Rattle.bx_board.specs.Machine.{is_held, is_leased}
use Rattle.bx_board.specs.Tended.{kept_view}
use Rattle.bx_board.proofs.Found.{if_err_any, none_is, some_is}
use Rattle.bx_board.proofs.Holding.{seen_long, seen_set}
use Rattle.bx_board.proofs.Runs.{same_run}
use Rattle.bx_board.proofs.Keeping.{may_top, none_left, same_holders, top_free, top_is, view_lease}
use Rattle.bx_board.proofs.RowLengths.{how_many_less}
use Rattle.bx_board.proofs.Steps.{free_is, is_true, true_is, waiting_is}
use Rattle.bx_board.proofs.Tending.{holds_none}
use Rattle.bx_board.proofs.books.Book.take.Goals as goal

pub returns-then-self-clause-ok : goal.returns-then-self-clause-ok
returns-then-self-clause-ok c = rw (← c.self.view_is) (refl, λ n may. both_ways c.self.inside.stopped may.1 c.if-self.true)

pub returns-then-contains_key-clause-ok : goal.returns-then-contains_key-clause-ok
returns-then-contains_key-clause-ok c =
    let i = c.self.inside in
    let found = some_is (get nat_cmp i.holders c.args.worker) (sym c.contains_key.ensures ∙ c.if-contains_key.true) in
    rw (← c.self.view_is) (refl, λ n may. may.2 (found.0, (c.self.invariant.0.held c.args.worker found.0).0 found.1))

pub returns-in_default-clause-ok : goal.returns-in_default-clause-ok
returns-in_default-clause-ok c =
    let i = c.self.inside in
    let last : slice_get i.ready.items (length i.ready.items - 1) ≡ None = ap (λ xs. slice_get xs (length xs - 1)) (sym c.deref.ensures.value) ∙ sym c.last.ensures.value ∙ sym c.copied.ensures ∙ c.in_default.is in
    let none = none_left _ i.ready.items i.holders i.leased i.done c.self.invariant.0 last in
    rw (← c.self.view_is) (refl, λ n may. both_ways _ (none n) (is_true _ may.0))

pub lease_of-requires : goal.lease_of-requires
lease_of-requires c =
    let i = c.self.inside in
    let last : slice_get i.ready.items (length i.ready.items - 1) ≡ Some c.in-Some.chain = ap (λ xs. slice_get xs (length xs - 1)) (sym c.deref.ensures.value) ∙ sym c.last.ensures.value ∙ sym c.copied.ensures ∙ c.in-Some.is in
    rw (← c.self.view_is) (true_is _ (top_free _ i.ready.items i.holders i.leased i.done c.self.invariant.0 c.in-Some.chain last))

pub invariant_of-self : goal.invariant_of-self
invariant_of-self c =
    let i = c.self.inside in
    (same_holders _ i.ready.items i.holders i.leased i.done c.self.invariant.0 c.insert.new.self c.in_default-insert.ensures.err, c.self.invariant.1, c.self.invariant.2, c.self.invariant.3)

pub index_mut-requires : goal.index_mut-requires
index_mut-requires c =
    let i = c.self.inside in
    let b = kept_view i.image.now i.start i.plan.now i.chains i.stands.items i.stopped in
    let last : slice_get i.ready.items (length i.ready.items - 1) ≡ Some c.in-Some.chain = ap (λ xs. slice_get xs (length xs - 1)) (sym c.deref.ensures.value) ∙ sym c.last.ensures.value ∙ sym c.copied.ensures ∙ c.in-Some.is in
    let was = free_is b.job b.state c.in-Some.chain (top_free b i.ready.items i.holders i.leased i.done c.self.invariant.0 c.in-Some.chain last) in
    omega (arith, was.within, i.stands.ok.0, seen_long c.self.invariant.2 refl)

-- a chain that is free is held by nobody, so not all are
pub overflow_add-self : goal.overflow_add-self
overflow_add-self c =
    let i = c.self.inside in
    let b = kept_view i.image.now i.start i.plan.now i.chains i.stands.items i.stopped in
    let last : slice_get i.ready.items (length i.ready.items - 1) ≡ Some c.in-Some.chain = ap (λ xs. slice_get xs (length xs - 1)) (sym c.deref.ensures.value) ∙ sym c.last.ensures.value ∙ sym c.copied.ensures ∙ c.in-Some.is in
    let was = free_is b.job b.state c.in-Some.chain (top_free b i.ready.items i.holders i.leased i.done c.self.invariant.0 c.in-Some.chain last) in
    omega (arith, i.stands.ok.0, seen_long c.self.invariant.2 refl, c.self.invariant.0.some_leased, how_many_less (is_held b.state) (length b.state.slots) c.in-Some.chain was.within (ap is_leased (waiting_is _ was.waiting)))

pub invariant_of-self-2 : goal.invariant_of-self-2
invariant_of-self-2 c =
    let i = c.self.inside in
    let b = kept_view i.image.now i.start i.plan.now i.chains i.stands.items i.stopped in
    let last : slice_get i.ready.items (length i.ready.items - 1) ≡ Some c.in-Some.chain = ap (λ xs. slice_get xs (length xs - 1)) (sym c.deref.ensures.value) ∙ sym c.last.ensures.value ∙ sym c.copied.ensures ∙ c.in-Some.is in
    let free = top_free b i.ready.items i.holders i.leased i.done c.self.invariant.0 c.in-Some.chain last in
    let none = none_is (get nat_cmp i.holders c.args.worker) (sym c.contains_key.ensures ∙ c.if-contains_key.false) in
    let count : length i.ready.items - 1 ≡ vec_len i.ready - 1 = omega (arith, i.ready.ok.0) in
    let row : i.ready.items ≡ c.pop-taken.new.self.items ++ c.in-Some.chain ∷ [] =
    top_is b i.ready.items i.holders i.leased i.done c.self.invariant.0 c.in-Some.chain last
    ∙ ap (λ front. front ++ c.in-Some.chain ∷ []) (ap (λ k. take k i.ready.items) count ∙ sym c.pop-taken.ensures.rest) in
    let both =
    view_lease c.self.invariant.0 c.self.invariant.2 refl c.args.worker c.in-Some.chain c.pop-taken.new.self.items c.insert.new.self
    (true_is _ free, c.if-self.false, holds_none b i.ready.items i.holders i.leased i.done c.self.invariant.0 c.args.worker none) row c.in-Ok.ensures.updates in
    let long = length-set i.stands.items c.in-Some.chain (Stand.Leased c.args.worker) in
    (both.0, omega (arith, c.pop-taken.ensures.capacity, c.self.invariant.1), both.1, omega (arith, c.self.invariant.3))

pub returns-clause-ok : goal.returns-clause-ok
returns-clause-ok c =
    let i = c.self.inside in
    let b = kept_view i.image.now i.start i.plan.now i.chains i.stands.items i.stopped in
    let last : slice_get i.ready.items (length i.ready.items - 1) ≡ Some c.in-Some.chain = ap (λ xs. slice_get xs (length xs - 1)) (sym c.deref.ensures.value) ∙ sym c.last.ensures.value ∙ sym c.copied.ensures ∙ c.in-Some.is in
    let free = top_free b i.ready.items i.holders i.leased i.done c.self.invariant.0 c.in-Some.chain last in
    let none = none_is (get nat_cmp i.holders c.args.worker) (sym c.contains_key.ensures ∙ c.if-contains_key.false) in
    let of : c.in_ok-lease.lease ≡ work_of b.job c.in-Some.chain = subst (λ (k : Kept). c.in_ok-lease.lease ≡ work_of k.job c.in-Some.chain) (sym c.self.view_is) c.in_ok-lease.ensures in
    let within = (free_is b.job b.state c.in-Some.chain free).within in
    rw (← c.self.view_is) (
      ((true_is _ free, c.if-self.false, holds_none b i.ready.items i.holders i.leased i.done c.self.invariant.0 c.args.worker none), seen_set c.self.invariant.2 refl c.in-Some.chain (Stand.Leased c.args.worker)),
      (omega (arith, within, c.self.invariant.0.kept.count), same_run of),
      of,
    )

pub returns-in_err-lease-clause-free : goal.returns-in_err-lease-clause-free
returns-in_err-lease-clause-free c =
    let i = c.self.inside in
    let b = kept_view i.image.now i.start i.plan.now i.chains i.stands.items i.stopped in
    let last : slice_get i.ready.items (length i.ready.items - 1) ≡ Some c.in-Some.chain = ap (λ xs. slice_get xs (length xs - 1)) (sym c.deref.ensures.value) ∙ sym c.last.ensures.value ∙ sym c.copied.ensures ∙ c.in-Some.is in
    let may : MayLease b c.args.worker = (c.in-Some.chain, may_top b i.ready.items i.holders i.leased i.done c.self.invariant.0 c.args.worker c.in-Some.chain c.if-self.false (sym c.contains_key.ensures ∙ c.if-contains_key.false) last) in
    if_err_any _ (subst (λ (k : Kept). MayLease k c.args.worker) c.self.view_is may)

pub returns-in_default-insert-clause-free : goal.returns-in_default-insert-clause-free
returns-in_default-insert-clause-free c =
    let i = c.self.inside in
    let b = kept_view i.image.now i.start i.plan.now i.chains i.stands.items i.stopped in
    let last : slice_get i.ready.items (length i.ready.items - 1) ≡ Some c.in-Some.chain = ap (λ xs. slice_get xs (length xs - 1)) (sym c.deref.ensures.value) ∙ sym c.last.ensures.value ∙ sym c.copied.ensures ∙ c.in-Some.is in
    let may : MayLease b c.args.worker = (c.in-Some.chain, may_top b i.ready.items i.holders i.leased i.done c.self.invariant.0 c.args.worker c.in-Some.chain c.if-self.false (sym c.contains_key.ensures ∙ c.if-contains_key.false) last) in
    subst (λ (k : Kept). MayLease k c.args.worker) c.self.view_is may
