use Rattle.std.proofs.Common.{◌++◌, ◌∷◌, [], refl}
use Rattle.std.proofs.lemmas.Result.{on_ok_weaker, MatchResult-weaker}
use Rattle.bx_signals.proofs.Lines.{set_by, set_same}
use Rattle.bx_signals.proofs.row.put_at.Goals as goal

pub returns-clause-ok : goal.returns-clause-ok
returns-clause-ok c =
    let put = set_by c.args.lines.now.items c.args.to c.args.at c.index_mut.result.now (c.index_mut.result.now.0, c.put.new.self) (λ ss. ss ++ c.args.signal ∷ []) c.requires.rising c.requires.place c.index_mut.ensures.value refl in
    on_ok_weaker c.put.result put c.put.ensures.ok

pub returns-clause-err : goal.returns-clause-err
returns-clause-err c =
    let same = set_same c.args.lines.now.items c.args.to c.args.at c.index_mut.result.now (c.index_mut.result.now.0, c.put.new.self) c.requires.rising c.requires.place c.index_mut.ensures.value refl in
    MatchResult-weaker c.put.result c.put.ensures.err (λ x h. h) (λ s h. (h.0, same h.1))
