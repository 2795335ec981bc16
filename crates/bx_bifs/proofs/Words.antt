-- Words that many of the proofs here use, passed on.
pub use Rattle.bx_bifs.specs.Bits.{bit, bits_and, bits_not, bits_or, bits_xor}
pub use Rattle.bx_bifs.specs.Given.{IsInRange, TakesMemory, badarg, badarith, boolean, computed, fits, integer, integer_of, term_or_badarg, truth_atom, undef}
pub use Rattle.bx_bifs.specs.GuardNames.{bif_atom}
unfoldable pub use Rattle.bx_bifs.specs.GuardNames.{guard_numbered, guard_of}
pub use Rattle.bx_bifs.specs.Guards.{guard_gives, named_gives, number_or_badarg, on_truths}
unfoldable pub use Rattle.bx_bifs.specs.Guards.{guard_one, guard_two}
pub use Rattle.bx_bifs.specs.Natives.{NativeRow, native_rows}
unfoldable pub use Rattle.bx_bifs.specs.Natives.{native_named, native_numbered, native_of}
pub use Rattle.bx_bifs.specs.Parts.{length_of, part, part_from_one}
pub use Rattle.bx_bifs.specs.Shifts.{over_power, times_power}
pub use Rattle.bx_bifs.specs.Values.{ahead, appended, built, elements, of_elements, put_at, tupled, untupled}
pub use Rattle.bx_bifs.specs.declared.given.Given.{Given, TheVariants.Trap, TheVariants.Value}
pub use Rattle.bx_ops.specs.GuardBifs.{every_guard_bif, guard_bif}
unfoldable pub use Rattle.bx_ops.specs.GuardBifs.{guard_bif_with}
pub use Rattle.bx_ops.specs.declared.guard_bif.Bif.{Bif}
pub use Rattle.bx_terms.proofs.Total.{order_of_total}
pub use Rattle.bx_terms.specs.Order.{order_of}
pub use Rattle.bx_terms.specs.Tree.{Tree, atom, cons, height, highest, int, listed, nil, pid, tuple}
pub use Rattle.bx_terms.specs.declared.atom_table.AtomId.{AtomId}
pub use Rattle.bx_terms.specs.declared.kinds.Trap.TheVariants.{TermHeight}
pub use Rattle.std.proofs.Common.{Bool, List, None, Option, Some, [], ap, append-nil, append_assoc, arith, bit_and, bit_or, bit_xor, bytes_eq, codes, cond, drop, false, get_or, if◌then◌else◌, inl, inr, int_div, int_rem, length, lit<, max, min, neg_ℤ, negsuc, not, option_and_then, option_map, pos, refl, slice_get, subst, suc, sym, true, unsigned_abs, zero, ℕ, ℤ, ◌%◌, ◌&&◌, ◌*ℤ◌, ◌*◌, ◌++◌, ◌+ℤ◌, ◌+◌, ◌-◌, ◌/◌, ◌<ℤ◌, ◌<◌, ◌==◌, ◌^◌, ◌↔◌, ◌∙◌, ◌∷◌, ◌≡◌, ◌≢◌, ◌≤ℤ◌, ◌≤◌}
pub use Rattle.std.proofs.lemmas.Bool.{and_parts, and_right, cases_Bool, cases_lt, false_from_ne_true, ne_eqb}
pub use Rattle.std.proofs.lemmas.Bool.Decides.{Decides-eqb, nat_tests, same_from_decides}
pub use Rattle.std.proofs.lemmas.Int.{ints, quot-rem, to_z-of_z, unsigned_abs-mul}
pub use Rattle.std.proofs.lemmas.Nat.{and-not, and_comm, and_le_l, and_le_r, div-add-mod', div_below, mod_below, mul-le, or_lt, pow_pos, shr_le, xor_lt}
pub use Rattle.std.proofs.lemmas.Slice.Eq.{bytes_eq-Decides}
pub use Rattle.std.specs.Int.{bit_at, cast_signed, cast_unsigned, int_bit_and, int_bit_not, int_bit_or, int_bit_xor, int_shr, w64}
pub use Rattle.std.specs.Int.Bits.{or_add_and, xor_add_and}
pub use Rattle.std.specs.List.{Contains, find}
pub use Rattle.std.specs.Option.{SomeIff, option_map_or}
pub use Rattle.std.specs.Ordering.{int_eq, is_gt, is_lt, ordering_reverse}
pub use Rattle.std.specs.Prelude.{Err, FitsSigned, IsSome, Ok, OnErr, Result, nat_le, nat_lt, slice_set}
