use Rattle.std.proofs.Common.{◌++◌, ◌∷◌, []}
use Rattle.std.proofs.lemmas.Result.{on_ok_weaker, MatchResult-weaker}
use Rattle.bx_signals.proofs.Maps.{set_row_by, set_same_row}
use Rattle.bx_signals.proofs.channels.put_in.Goals as goal

pub returns-clause-ok : goal.returns-clause-ok
returns-clause-ok c =
    let put = set_row_by c.args.rows.now.items c.args.from c.args.to c.index_mut.result.now c.put.new.self (λ ss. ss ++ c.args.signal ∷ []) c.requires.from c.index_mut.ensures.value in
    on_ok_weaker c.put.result put c.put.ensures.ok

pub returns-clause-err : goal.returns-clause-err
returns-clause-err c =
    let same = set_same_row c.args.rows.now.items c.args.from c.index_mut.result.now c.put.new.self c.requires.from c.index_mut.ensures.value in
    MatchResult-weaker c.put.result c.put.ensures.err (λ x h. h) (λ s h. (h.0, same h.1))
