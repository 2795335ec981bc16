-- The words that more than one proof here uses, passed on from where they stand.
pub use Rattle.std.proofs.Common.{◌≡◌, ◌≢◌, ◌⊎◌, inl, inr, ℕ, suc, ◌+◌, ◌<◌, Bool, true, false, cond, List, [], ◌∷◌, ◌++◌, Option, Some, None, Result, Ok, Err, length, refl, sym, ap, ◌∙◌, arith, subst, append-nil, Decides, ◌-◌, ◌^◌}
pub use Rattle.std.proofs.Common.{◌≤◌, min, ◌||◌, get_or, replicate, take, length-append, Bor, ⊎_elim, zero, drop, map, add-one, append_assoc, option_map, length-drop, ◌*◌, ◌&&◌, rules, set, ◌==◌, leb, reverse, not}
pub use Rattle.std.proofs.Math.ListN.{get_or-append}
pub use Rattle.std.proofs.Math.Seq.{get_or-append_seam, take-length, take-append-add, take-append_seam}
pub use Rattle.std.proofs.lemmas.Bool.{ne_eqb, eqb-false, both_ways, cond_both, false_from_ne_true, cases_lt, lt-ltb, le-ltb, ltb-true, ltb-false, cases_Bool, cond-false, cond-true, cases_eq, and_parts, and_from, leb-true, le-leb}
pub use Rattle.std.proofs.lemmas.Bool.{eqb-true, eq-eqb, true_from_ne_false, cases_order, leb-false, lt-leb, not-true}
pub use Rattle.std.proofs.lemmas.Bool.Decides.{same_from_decides, nat_tests, Decides-and, Decides-or}
pub use Rattle.std.proofs.lemmas.Cmp.{lists_total, nat_cmp_total, on_total, then_total, tied_itself, lists_equiv}
pub use Rattle.std.proofs.lemmas.List.{length-map, length-replicate, map-append, take_all, length-take-le, take_at, take-append-drop, length_push, length-take, drop_all, length-set, take_more, get_or-set_other, get_or-set_same}
pub use Rattle.std.proofs.lemmas.List.{take-take, get_or_default, replicate-append-replicate, drop_more, reverse-append, take_rest, same_from_push, get_or_push, get_or-take, drop-set-lt, set_split, take_more_set, take-append-le}
pub use Rattle.std.proofs.lemmas.List.{get_or_append_left, drop_at, length-reverse}
pub use Rattle.std.proofs.lemmas.List.Elements.{Contains-push_cases, Contains-append_cases, Contains-append_left, Contains-append_right, All-nil, All-push, All-weaker, filter_more}
pub use Rattle.std.proofs.lemmas.List.Folds.{list_any-append}
pub use Rattle.std.proofs.lemmas.List.Splits.{length-slice_split, join_with_byte-slice_split}
pub use Rattle.std.proofs.lemmas.List.Sums.{sum_by-append, count_by-le-length, sum_by-cons}
pub use Rattle.std.proofs.lemmas.Option.{option_and_then_some, same_Some, cond_some}
pub use Rattle.std.proofs.lemmas.Slice.Eq.{bytes_eq-Decides, slice_eq-Decides}
pub use Rattle.std.proofs.lemmas.Str.{IsUtf8-from_is_utf8, is_utf8-from_IsUtf8, IsUtf8-from_ascii}
pub use Rattle.std.specs.BTreeSet.{BTreeSet, contains, Updates}
pub use Rattle.std.specs.Char.{is_ascii_digit}
pub use Rattle.std.specs.Fmt.{decimal}
pub use Rattle.std.specs.List.{AllByRecursion, join_with_byte, Contains, slice_get, insert, swap, list_all, filter, All, IsDistinct}
pub use Rattle.std.specs.Option.{option_and_then, option_map_or}
pub use Rattle.std.specs.Ordering.{ordering_reverse, is_gt, ordering_then, is_lt}
pub use Rattle.std.specs.Prelude.{nat_eq, nat_lt, ◌↔◌, nat_le, MatchOption, slice_index, OnErr}
pub use Rattle.std.specs.Str.{bytes_eq, is_utf8, IsUtf8, IsAscii, all_ascii_digits}
pub use Rattle.std.specs.Vec.{vec_capacity}
pub use Rattle.std.specs.declared.cmp.Ordering.{Ordering, TheVariants.Equal, TheVariants.Less, TheVariants.Greater}
pub use Rattle.std.proofs.lemmas.Grind.{common_steps}
pub use Rattle.std.proofs.lemmas.Map.Made.{length-le_from_is_member, is_member-Decides}
pub use Rattle.std.specs.Cmp.{IsTotalOrder, IsStrictWeakOrder, IsEquivalence}
pub use Rattle.std.specs.List.Sorted.{IsSortedBy, IsNonDecreasingBy, IsPartitionPoint}
pub use Rattle.std.proofs.lemmas.List.Sorted.{ranks_by, sorted_far, IsNonDecreasingBy-from_all_adjacent, IsPartitionPoint-from_clause, IsPartitionedBy-leb}
pub use Rattle.bx_plan.specs.Building.{read_loose, text_cmp, Stands, so_far, IsBuilding, with_loose, Overfull, answer_of, Adds, IsNoted}
pub use Rattle.bx_plan.specs.Chains.{above, begun, chain_path, head, Chained, IsCut, times, path_at, AreChains, AreForest, Begins, Owns, is_kid, kids, no_head, one_if}
pub use Rattle.bx_plan.specs.Cuts.{marked, AllCuts, AreCuts, IsCutBy, deepest, Rise}
pub use Rattle.bx_plan.specs.Entry.{Entry}
pub use Rattle.bx_plan.specs.Firsts.{digits_first, words_left, size_left, number_first, deliver_first, choice_by, some_times, times_first, entry_first, next_of, next_first, first_view, IsFirst}
pub use Rattle.bx_plan.specs.Gathered.{common, no_row, placed, row_at, AreRows, common_before, choice_cmp, choices_cmp, rank, next_cmp}
pub use Rattle.bx_plan.specs.Grammar.{IsNothing, IsSchedule, spelling, HasPids, IsOnce, IsRepeated, IsEntry, IsNameByte, IsName, AreEntries}
pub use Rattle.bx_plan.specs.Growing.{Grown, IsReached}
pub use Rattle.bx_plan.specs.Nodes.{node_count, choice_eq, with_nodes, prefixes, with_schedule_nodes, nodes_from, nodes_of, IsPrefix, EndsThere, has_node, with_node, AreNodes}
pub use Rattle.bx_plan.specs.Ordered.{at_row, rows_at, AreFrom, AreInOrder, AreMerged, Takes, headed, GoOn}
pub use Rattle.bx_plan.specs.Parts.{parts_left, IsPlace}
pub use Rattle.bx_plan.specs.Plans.{Named, choices_of, named, has_name, is_too_long, with_read, with_lines, plan_of, TakesFirst, TakesMemory, with_schedule}
pub use Rattle.bx_plan.specs.Reading.{line_of, parts_of, count_of, spread, entry_of, entry_each, cut, digits_from, number_of, entries_of, tail_of, is_name_byte, is_name, named_of, schedule_of, choice_of, deliver_of, made, repeated_of}
pub use Rattle.bx_plan.specs.Runs.{NextRun, spread_runs, GoesOn}
pub use Rattle.bx_plan.specs.Stretches.{choices_from, made_before, AreStretches, behind, IsPart, IsOverBy, BeginAlike}
pub use Rattle.bx_plan.specs.View.{line_view, lines_view}
pub use Rattle.bx_plan.specs.declared.chains.Head.{Head}
pub use Rattle.bx_plan.specs.declared.plans.Line.{Line}
pub use Rattle.bx_plan.specs.declared.plans.Row.{Row}
pub use Rattle.bx_plan.specs.declared.schedules.stretches.Stretch.{Stretch}
pub use Rattle.bx_terms.specs.Outcomes.{◌>>=◌, Gives}
pub use Rattle.bx_terms.specs.declared.faults.Fault.{Fault, TheVariants.NameTwice, TheVariants.TooLong, TheVariants.BadLine}
pub use Rattle.bx_world.specs.declared.choices.Choice.{Choice, TheVariants.Run, TheVariants.Deliver, TheVariants.Expire}
pub use Rattle.bx_plan.specs.Planned.{choices_at, Planned, schedules}
