-- Parts in a loop: a map's pairs, a binary's segments.
use Rattle.std.proofs.Common.{◌≡◌, ℕ, ◌+◌, ◌-◌, ◌<◌, Result, Ok, Err, sym, ap, ◌∙◌}
use Rattle.bx_terms.specs.Outcomes.{Gives, ◌>>=◌}
use Rattle.bx_terms.specs.declared.faults.Fault.{Fault}
use Rattle.bx_text.specs.Token.{Lexeme}
use Rattle.bx_text.specs.Terms.{Follow, next, end, go_through, parts}
use Rattle.bx_text.proofs.Outcomes.{gives_err}
use Rattle.bx_text.proofs.Rows.{turns}

pub parts_step : (size turn : ℕ) (part : Lexeme → Result Follow Fault) (l n : Lexeme) → turn < size → part l ≡ Ok (next n) → parts part (size - (turn + 1)) n ≡ parts part (size - turn) l
parts_step size turn part l n t h = sym (ap (λ k. parts part k l) (turns size turn t) ∙ ap (λ r. r >>= go_through (parts part (size - (turn + 1)))) h)

pub parts_end : (size turn : ℕ) (part : Lexeme → Result Follow Fault) (l m : Lexeme) → turn < size → part l ≡ Ok (end m) → parts part (size - turn) l ≡ Ok m
parts_end size turn part l m t h = ap (λ k. parts part k l) (turns size turn t) ∙ ap (λ r. r >>= go_through (parts part (size - (turn + 1)))) h

pub parts_fail : {X Y : Type 0} (T U : Type 0) (v : X → Follow) (w : Y → Lexeme) (e : Fault) (size turn : ℕ) (part : Lexeme → Result Follow Fault) (l : Lexeme) (said : Result Lexeme Fault)
    → turn < size → (T → U) → parts part (size - turn) l ≡ said → Gives T v (Err e) (part l) → Gives U w (Err e) said
parts_fail T U v w e size turn part l said t f s h =
    gives_err v w e (part l) said f (λ g. sym s ∙ ap (λ k. parts part k l) (turns size turn t) ∙ ap (λ r. r >>= go_through (parts part (size - (turn + 1)))) g) h
