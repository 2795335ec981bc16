use Rattle.bx_listing.proofs.Known.{◌≡◌, ◌++◌, drop, string_bytes, flat_map, function_text}
use Rattle.bx_listing.proofs.writing.push_functions.Given as goal

-- what is written and what is left to write make the whole
abbrev pub invariant-loop-function : goal.invariant-loop-function
invariant-loop-function l =
    string_bytes l.out ++ flat_map (function_text l.atoms) (drop l.function-index l.functions) ≡ string_bytes l.fn.out ++ flat_map (function_text l.atoms) l.functions
