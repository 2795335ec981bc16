use Rattle.bx_terms.proofs.Words.{◌∙◌, sym, fold_more, used}
use Rattle.bx_terms.proofs.atom_table.add_all.Goals as goal

pub loop-text-preserved : goal.loop-text-preserved
loop-text-preserved c =
    let put = rw c.loop-text.invariant at c.in_ok-use_text.ensures in
    put ∙ sym (fold_more (λ held text. used held text.now) _ c.args.texts.now c.loop-text.text-index _ c.loop-text-test.true)
