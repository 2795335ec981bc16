use Rattle.std.proofs.Common.{◌≡◌, ◌∙◌, sym, ap, refl, arith}
use Rattle.std.proofs.lemmas.Grind.{common_steps}
use Rattle.bx_text.specs.Form.{form_tree, tail_tree}
use Rattle.bx_text.specs.Tree.{nil, chain, nodes}
use Rattle.bx_text.proofs.Contents.{tuples_told, lists_told, same_ends, tail_falls, elements_fall}
use Rattle.bx_text.proofs.node.+same.Goals as goal

pub Node::same-same_tails-requires : goal.Node::same-same_tails-requires
Node::same-same_tails-requires t c =
    let here = c.in-List-List in
    let falls = tail_falls c.self.inside.span here.xs.items (tail_tree here.tail) c.args.self.now (sym (ap (form_tree c.self.inside.span) here.is-0) ∙ c.self.view_is) in
    (omega (arith, c.decreases), tt)

pub Node::same-same_elements-requires-then-same_tails : goal.Node::same-same_elements-requires-then-same_tails
Node::same-same_elements-requires-then-same_tails t c =
    let here = c.in-List-List in
    let falls = elements_fall c.self.inside.span here.xs.items (tail_tree here.tail) c.args.self.now (sym (ap (form_tree c.self.inside.span) here.is-0) ∙ c.self.view_is) in
    let row : nodes (chain c.deref-then-same_tails.result.now nil) ≡ nodes (chain here.xs.items nil) = ap (λ xs. nodes (chain xs nil)) c.deref-then-same_tails.ensures.value in
    (omega (arith, c.decreases), tt)

pub Node::same-returns-in-Tuple-Tuple : goal.Node::same-returns-in-Tuple-Tuple
Node::same-returns-in-Tuple-Tuple t c =
    let here = c.in-Tuple-Tuple in
    tuples_told c.self.inside.span c.other.inside.span here.xs.items here.ys.items _ _ _ _ (grind (arith, common_steps)) (sym (ap (form_tree c.self.inside.span) here.is-0) ∙ c.self.view_is)
    (sym (ap (form_tree c.other.inside.span) here.is-1) ∙ c.other.view_is) c.deref.ensures.value c.deref-in-Tuple-Tuple.ensures.value c.same_elements.ensures

pub Node::same-returns-then-same_tails : goal.Node::same-returns-then-same_tails
Node::same-returns-then-same_tails t c =
    let here = c.in-List-List in
    let ends = c.same_tails.ensures in
    lists_told c.self.inside.span c.other.inside.span here.xs.items here.ys.items _ _ (tail_tree here.tail) (tail_tree here.other_tail) _ _ (grind (arith, common_steps)) (sym (ap (form_tree c.self.inside.span) here.is-0) ∙ c.self.view_is)
    (sym (ap (form_tree c.other.inside.span) here.is-1) ∙ c.other.view_is) ends.ends.0 ends.ends.1 (ends.same.0 c.if-same_tails.true) c.deref-then-same_tails.ensures.value c.deref-then-same_tails-2.ensures.value c.same_elements-then-same_tails.ensures

pub Node::same-returns-else-same_tails : goal.Node::same-returns-else-same_tails
Node::same-returns-else-same_tails t c =
    let here = c.in-List-List in
    let ends = c.same_tails.ensures in
    let told = c.if-same_tails.false in (
      λ e. cc,
      λ e. ends.same.1 (same_ends c.self.inside.span c.other.inside.span here.xs.items here.ys.items (tail_tree here.tail) (tail_tree here.other_tail) _ _ (sym (ap (form_tree c.self.inside.span) here.is-0) ∙ c.self.view_is)
          (sym (ap (form_tree c.other.inside.span) here.is-1) ∙ c.other.view_is) ends.ends.0 ends.ends.1 e),
    )

pub Node::same-same_tails-requires-in-List-Text : goal.Node::same-same_tails-requires-in-List-Text
Node::same-same_tails-requires-in-List-Text t c =
    let here = c.in-List-Text in
    let falls = tail_falls c.self.inside.span here.xs.items (tail_tree here.tail) c.args.self.now (sym (ap (form_tree c.self.inside.span) here.is-0) ∙ c.self.view_is) in
    (omega (arith, c.decreases), tt)

pub Node::same-same_tails-requires-in-Text-List : goal.Node::same-same_tails-requires-in-Text-List
Node::same-same_tails-requires-in-Text-List t c =
    let here = c.in-Text-List in
    let falls = tail_falls c.self.inside.span here.xs.value nil c.args.self.now (sym (ap (form_tree c.self.inside.span) here.is-0) ∙ c.self.view_is) in
    (omega (arith, c.decreases), tt)

pub Node::same-returns-then-same_tails-2 : goal.Node::same-returns-then-same_tails-2
Node::same-returns-then-same_tails-2 t c =
    let here = c.in-List-Text in
    let ends = c.same_tails-in-List-Text.ensures in
    lists_told c.self.inside.span c.other.inside.span here.xs.items here.ys.value _ _ (tail_tree here.tail) nil _ _ (grind (arith, common_steps)) (sym (ap (form_tree c.self.inside.span) here.is-0) ∙ c.self.view_is)
    (sym (ap (form_tree c.other.inside.span) here.is-1) ∙ c.other.view_is) ends.ends.0 ends.ends.1 (ends.same.0 c.if-same_tails-2.true) c.deref-then-same_tails-2-2.ensures.value c.deref-then-same_tails-2-3.ensures c.same_elements-then-same_tails-2.ensures

pub Node::same-returns-else-same_tails-2 : goal.Node::same-returns-else-same_tails-2
Node::same-returns-else-same_tails-2 t c =
    let here = c.in-List-Text in
    let ends = c.same_tails-in-List-Text.ensures in
    let told = c.if-same_tails-2.false in (
      λ e. cc,
      λ e. ends.same.1 (same_ends c.self.inside.span c.other.inside.span here.xs.items here.ys.value (tail_tree here.tail) nil _ _ (sym (ap (form_tree c.self.inside.span) here.is-0) ∙ c.self.view_is)
          (sym (ap (form_tree c.other.inside.span) here.is-1) ∙ c.other.view_is) ends.ends.0 ends.ends.1 e),
    )

pub Node::same-returns-then-same_tails-3 : goal.Node::same-returns-then-same_tails-3
Node::same-returns-then-same_tails-3 t c =
    let here = c.in-Text-List in
    let ends = c.same_tails-in-Text-List.ensures in
    lists_told c.self.inside.span c.other.inside.span here.xs.value here.ys.items _ _ nil (tail_tree here.tail) _ _ (grind (arith, common_steps)) (sym (ap (form_tree c.self.inside.span) here.is-0) ∙ c.self.view_is)
    (sym (ap (form_tree c.other.inside.span) here.is-1) ∙ c.other.view_is) ends.ends.0 ends.ends.1 (ends.same.0 c.if-same_tails-3.true) c.deref-then-same_tails-3.ensures c.deref-then-same_tails-3-2.ensures.value c.same_elements-then-same_tails-3.ensures

pub Node::same-returns-else-same_tails-3 : goal.Node::same-returns-else-same_tails-3
Node::same-returns-else-same_tails-3 t c =
    let here = c.in-Text-List in
    let ends = c.same_tails-in-Text-List.ensures in
    let told = c.if-same_tails-3.false in (
      λ e. cc,
      λ e. ends.same.1 (same_ends c.self.inside.span c.other.inside.span here.xs.value here.ys.items nil (tail_tree here.tail) _ _ (sym (ap (form_tree c.self.inside.span) here.is-0) ∙ c.self.view_is)
          (sym (ap (form_tree c.other.inside.span) here.is-1) ∙ c.other.view_is) ends.ends.0 ends.ends.1 e),
    )

pub Node::same-returns-in-Text-Text : goal.Node::same-returns-in-Text-Text
Node::same-returns-in-Text-Text t c =
    let here = c.in-Text-Text in
    lists_told c.self.inside.span c.other.inside.span here.xs.value here.ys.value _ _ nil nil _ _ (grind (arith, common_steps)) (sym (ap (form_tree c.self.inside.span) here.is-0) ∙ c.self.view_is)
    (sym (ap (form_tree c.other.inside.span) here.is-1) ∙ c.other.view_is) tt tt refl c.deref-in-Text-Text.ensures c.deref-in-Text-Text-2.ensures c.same_elements-in-Text-Text.ensures
