-- The words that proofs here use, passed on from where they stand.
pub use Rattle.bx_terms.specs.Outcomes.{◌>>=◌}
pub use Rattle.bx_terms.specs.declared.faults.Fault.{Fault, TheVariants.BadTerm, TheVariants.NotUtf8, TheVariants.TooDeep}
pub use Rattle.bx_text.proofs.Outcomes.{bind_ok, ok_same}
pub use Rattle.bx_text.specs.Blank.{line_of, skip, skip_from}
pub use Rattle.bx_text.specs.Bytes.{begins, is_digit, is_lower, is_name, is_not_feed, is_percent, is_space}
pub use Rattle.bx_text.specs.Lexing.{behind, body_len, control_len, escaped_len, exponent_len, fraction_len, kind_of, lexeme_at, lexeme_from, name_len, number_at, number_by, pair_on, point_len}
pub use Rattle.bx_text.specs.Lexing.{power_len, punctuation_of, quoted_at, sign_len, stop_at, token_at, token_by, word}
pub use Rattle.bx_text.specs.Number.{decimal, number}
pub use Rattle.bx_text.specs.Place.{Place, after}
pub use Rattle.bx_text.specs.Terms.{closes_binary, closes_list, closes_tuple, is_arrow, is_bar, is_colon, is_comma, is_quote, is_slash, is_stop, is_utf8_name, kept_at, letters, passed, span, tail_of}
pub use Rattle.bx_text.specs.Token.{Body, Lexeme, Token, spelled}
pub use Rattle.bx_text.specs.Tree.{Tree, atom, chain, list, nil, other, tuple}
pub use Rattle.bx_text.specs.declared.node.Sort.{Sort}
pub use Rattle.bx_text.specs.declared.node.Span.{Span}
pub use Rattle.bx_text_laws.specs.Blanks.{Blank, LineEnds, NoBlank, Passes, Spoilt, comment, nothing}
pub use Rattle.bx_text_laws.specs.Characters.{IsControl, IsSpace}
pub use Rattle.bx_text_laws.specs.Numerals.{Digit, Numeral, digit_more, one_digit}
pub use Rattle.bx_text_laws.specs.Quoted.{IsOctal, IsOther, IsQuote, Named, NoOctal, Quoted, backspace, carriage_return, delete, escape, form_feed, line_feed, tab, vertical_tab}
pub use Rattle.bx_text_laws.specs.Shown.{IsReadBack, IsStanding, Shown, ShownList, ShownRest, ShownRow, StandsAs}
pub use Rattle.bx_text_laws.specs.Spelling.{Begins, Digits, Exponent, InUtf8, MayFollow, Minus, Sign, Spelling, StopsAt, a_minus, an_exponent, arrow, bar, bare_atom, close_binary, close_list}
pub use Rattle.bx_text_laws.specs.Spelling.{close_parenthesis, close_tuple, colon, comma, float, full_stop, minus, negative, no_exponent, no_minus, no_sign, open_binary, open_list, open_map}
pub use Rattle.bx_text_laws.specs.Spelling.{open_parenthesis, open_tuple, plus, quoted_atom, string, the_word_fun}
pub use Rattle.bx_text_laws.specs.Terms.{NoQuote, NoText, OnlyBlanks, Sentence, Stood, Term, Texts}
pub use Rattle.bx_text_laws.specs.Tokens.{Longest, NoLonger, Stands, Takes, lines, meant}
pub use Rattle.std.proofs.Common.{Bool, Err, IsUtf8, List, None, Ok, Result, Some, [], add-zero, ap, append-nil, append_assoc, arith, chars, codes, cond, drop, drop-drop, drop_at, encode_utf8_all, eqb}
pub use Rattle.std.proofs.Common.{false, get_or, if◌then◌else◌, inl, inr, le_of_eq, le_refl, leb, length, length-append, length-drop, ltb, map, neg_ℤ, not, pos, refl, subst, suc, sym, take, take_all}
pub use Rattle.std.proofs.Common.{take_at, true, zero, ℕ, ◌%◌, ◌&&◌, ◌*◌, ◌++◌, ◌+◌, ◌-◌, ◌/◌, ◌<◌, ◌^◌, ◌||◌, ◌↔◌, ◌∙◌, ◌∷◌, ◌≡◌, ◌≢◌, ◌≤◌, ◌⊎◌}
pub use Rattle.std.proofs.lemmas.Bool.{and_from, and_parts, both_ways, cases_Bool, cases_eq, cases_lt, cond-false, cond-true, cond_both, eq-eqb, eqb-false, eqb-true, false_from_ne_true, ltb-false}
pub use Rattle.std.proofs.lemmas.Bool.{ltb-true, ne_eqb, not-true, or_cases, or_right}
pub use Rattle.std.proofs.lemmas.Bool.Decides.{nat_tests}
pub use Rattle.std.proofs.lemmas.Str.{IsCharBoundary-before_ascii, IsCharBoundary-from_take, IsUtf8-append, IsUtf8-drop, IsUtf8-encode, IsUtf8-from_is_utf8, IsUtf8-nil, IsUtf8-take, encode_ascii}
pub use Rattle.std.proofs.lemmas.Str.{is_utf8-from_IsUtf8, len_utf8_bounds, length-encode, utf8_valid_len-IsUtf8, utf8_valid_len-IsValidUpTo, utf8_valid_len_le}
pub use Rattle.std.specs.List.{AllByRecursion, fold, list_all, prefix_len}
pub use Rattle.std.specs.Str.{all_scalars, is_utf8}
pub use Rattle.std.specs.Str.Lossy.{valid_len_up_to}
