use Rattle.bx_swaps.proofs.Words.{ℕ, List, false, Bool, inl, refl, sym, subst, arith, Some, None, slice_index_or, ExchangesAll}
use Rattle.std.proofs.lemmas.List.{drop_more, drop_all}
use Rattle.bx_replay.specs.Exchanges.{Exchanges}
use Rattle.bx_swaps.specs.Exchanges.{IsFirstAtFault}
use Rattle.bx_swaps.proofs.swaps.exchange_all.Goals as goal

pub returns-then-not-branch : goal.returns-then-not-branch
returns-then-not-branch c =
    let at = c.loop-position.trail in
    let i = c.loop-position.position-index in
    let position = slice_index_or c.args.positions.now i 0 in
    let fault : Exchanges position at c.exchange.new.self false = subst (λ (b : Bool). Exchanges position at c.exchange.new.self b) c.if-not-branch.true c.in_ok-exchange.ensures.done in
    c.loop-position.invariant at (Some position)
    (subst (λ (rest : List ℕ). IsFirstAtFault rest at position) (sym (drop_more c.args.positions.now i 0 (omega arith))) (inl (refl, fault.0)))

pub returns : goal.returns
returns c =
    let at = c.loop-position.trail in
    c.loop-position.invariant at None
    (subst (λ (rest : List ℕ). ExchangesAll rest at at None) (sym (drop_all c.loop-position.position-index c.args.positions.now (omega arith))) (tt, refl))
