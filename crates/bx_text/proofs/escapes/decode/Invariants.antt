use Rattle.std.proofs.Common.{◌≡◌, string_bytes}
use Rattle.std.specs.List.{fold}
use Rattle.std.specs.Str.{encode_utf8_all}
use Rattle.bx_text.specs.declared.escapes.Escape.TheVariants.{Plain}
use Rattle.bx_text.specs.Escapes.{step, known_in}
use Rattle.bx_text.proofs.escapes.decode.Given as goal

abbrev pub invariant-loop-c : goal.invariant-loop-c
invariant-loop-c l = (string_bytes l.out ≡ encode_utf8_all (known_in Plain l.yielded)) × (l.escape ≡ fold step Plain l.yielded)
