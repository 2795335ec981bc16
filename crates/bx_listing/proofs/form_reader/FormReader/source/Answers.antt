use Rattle.bx_listing.proofs.Known.{◌≡◌, ℕ, ◌<◌, ◌≤◌, length, get_or, List, [], ◌∷◌, sym, ap, ◌∙◌, arith, Tree, tagged, shape, operand_word, literal_source}
use Rattle.bx_listing.proofs.Known.{source_of, source_in, source}
use Rattle.bx_listing.specs.declared.words.OperandWord.TheVariants as words
use Rattle.bx_listing.proofs.form_reader.FormReader.source.Goals as goal

literal_is : (t u : Tree) (text : List ℕ) (parts : List Tree) → tagged text parts ≡ shape t → words.Literal ≡ operand_word text → 1 ≤ length parts → length parts < 2 → u ≡ get_or parts 0 u
    → source t ≡ literal_source u
literal_is t u text [] e k some few at = absurd (omega (arith, some))
literal_is t u text (x ∷ []) e k some few at =
    ap (source_in t) (sym e) ∙ (ap (λ w. source_of t w (x ∷ [])) (sym k) ∙ ap (literal_source) (sym at))
literal_is t u text (x ∷ y ∷ parts) e k some few at = absurd (omega (arith, few))

pub returns-in-Literal-len1 : goal.returns-in-Literal-len1
returns-in-Literal-len1 c =
    rw (literal_is c.args.node.now c.term-item.result c.in-Tagged.word.now c.in-Tagged.parts.now c.in-Tagged.ensures c.in-Literal-len1.ensures c.in-Literal-len1.len_at_least c.in-Literal-len1.len_below c.term-item.is) c.literal_source.ensures
