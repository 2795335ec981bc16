-- Words that many of the proofs here use, passed on.
pub use Rattle.bx_terms.specs.AtomTable.{IsAtomTable, first_uses, is_new, is_short, number_of, used}
pub use Rattle.bx_terms.specs.FixedAtoms.{Spells}
pub use Rattle.bx_terms.specs.Naming.{naming, naming_all, numbered}
pub use Rattle.bx_terms.specs.Order.{atom_order, codes_of, order_of, size, text_order}
pub use Rattle.bx_terms.specs.Printed.{printed, printed_elements, printed_tail}
pub use Rattle.bx_terms.specs.Sameness.{same_decides}
pub use Rattle.bx_terms.specs.Texts.{AreNumbers}
pub use Rattle.bx_terms.specs.Tree.{Tree, cons, height, highest, int, listed, nil, nodes, pid, tuple}
pub use Rattle.bx_terms.specs.declared.fixed.TheConstants.{TEXTS}
pub use Rattle.std.proofs.Common.{Bool, Err, List, None, Ok, Option, Result, Some, String, [], ap, append-nil, append_assoc, arith, bytes_eq, codes, cond, drop, eqb, false, filter, fold, get_or, if◌then◌else◌, inl, inr, is_none, is_some, length, length-append, lit≤, map, max, nat_eq, nat_lt, not, option_map, pos, position, refl, slice_get, slice_range, slice_set, string_bytes, subst, suc, sym, take, true, true≢false, zero, ℕ, ℤ, ◌&&◌, ◌*◌, ◌++◌, ◌+◌, ◌/◌, ◌<◌, ◌||◌, ◌↔◌, ◌∙◌, ◌∷◌, ◌≡◌, ◌≤◌, ◌⊎◌}
pub use Rattle.std.proofs.lemmas.Bool.{cases_Bool, cases_lt, cases_order, false_from_ne_true, true_from_ne_false}
pub use Rattle.std.proofs.lemmas.Bool.Decides.{Decides-int_eq, nat_tests, same_from_decides}
pub use Rattle.std.proofs.lemmas.Cmp.{by_ranked, int_cmp_total, lists_total, nat_cmp_total, nat_list_cmp_total, nat_list_eq_equiv, on_total, ranked, then_total, tied_itself}
pub use Rattle.std.proofs.lemmas.List.{length-map, length-take, map-append, set-get_or, take-append-le, take_rest}
pub use Rattle.std.proofs.lemmas.List.Elements.{All-push, filter_agree}
pub use Rattle.std.proofs.lemmas.List.Folds.{list_any-append, list_any_at, position_or_len_push}
pub use Rattle.std.proofs.lemmas.List.Quantifiers.{position-Some}
pub use Rattle.std.proofs.lemmas.List.Sums.{AllPass-from_list_all, fold_more, prefix_len-le-length}
pub use Rattle.std.proofs.lemmas.Map.Keys.{IsDistinct-push, apart_from_distinct}
pub use Rattle.std.proofs.lemmas.Option.{get_or_from_slice_get, slice_get-get_or, slice_get_within}
pub use Rattle.std.proofs.lemmas.Slice.Eq.{bytes_eq-Decides, slice_eq-Decides}
pub use Rattle.std.proofs.lemmas.Str.{IsUtf8-from_is_utf8, encodes-chars, is_utf8-from_IsUtf8, length-le-encodes}
pub use Rattle.std.specs.Cmp.Lexicographic.{pointwise, slice_cmp}
pub use Rattle.std.specs.List.{IsDistinct, flat_map, join_by, list_any, position_or_len, prefix_len}
pub use Rattle.std.specs.Ordering.{int_cmp, is_eq, nat_cmp, on, ordering_reverse, ordering_then, then_cmp}
pub use Rattle.std.specs.Str.{IsUtf8, is_utf8}
pub use Rattle.std.specs.String.{string_cmp, string_eq}
pub use Rattle.std.specs.declared.cmp.Ordering.{Ordering, TheVariants.Equal, TheVariants.Greater, TheVariants.Less}
