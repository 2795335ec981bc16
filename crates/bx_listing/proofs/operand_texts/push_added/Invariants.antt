use Rattle.bx_listing.proofs.Known.{◌≡◌, ◌++◌, drop, string_bytes, added_text}
use Rattle.bx_listing.proofs.operand_texts.push_added.Given as goal

-- what is written and what is left to write make the whole
abbrev pub invariant-loop-operand : goal.invariant-loop-operand
invariant-loop-operand l =
    string_bytes l.out ++ added_text l.atoms (drop l.operand-index l.operands) ≡ string_bytes l.fn.out ++ added_text l.atoms l.operands
