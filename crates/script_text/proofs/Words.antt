-- The words that the proofs of this crate cite from elsewhere.
pub use Rattle.std.{proofs.Common.{Bool, Bor, Err, IsTrue, List, None, Ok, OnErr, Option, Result, Some, ap, append_assoc, arith, bytes_eq, codes, decimal, drop, false, flat_map, get_or, inl, inr, length, length-drop, min, nat_eq, nat_le, not, refl, rules, slice_index, slice_set, subst, suc, sym, take, tests, true, zero, ℕ, [], ◌%◌, ◌&&◌, ◌*◌, ◌++◌, ◌+◌, ◌-◌, ◌/◌, ◌<◌, ◌==◌, ◌^◌, ◌∙◌, ◌∷◌, ◌≡◌, ◌≢◌, ◌≤◌, ◌⊎◌}, proofs.lemmas.Bool.{agree_below_at, and_from, and_parts, cases_Bool, cases_eq, cond-false, cond-true, eqb-false, eqb-true, false≢true, le-leb, le-ltb, leb-false, leb-true, lt-leb, lt-ltb, ne_eqb, not-true, not_from_false}, proofs.lemmas.Bool.Decides.{Decides-eqb, nat_tests}, proofs.lemmas.Grind.common_steps, proofs.lemmas.Fmt.{decimal_by_steps, decimal_digit, decimal_nonempty, first_decimal, length-decimal-le}, proofs.lemmas.Iterator.YieldsList-from_slice, proofs.lemmas.Iterator.Search.all_from_yields_List, proofs.lemmas.List.{append-nil, drop-drop, drop-take, drop_all, drop_at, drop_more, length-set, length-take, length-take-le, length_push, take-append-drop, take-append-le, take-map, take-take, take_all, take_more_set, with_items_is}, proofs.lemmas.List.Folds.list_all-append, proofs.lemmas.List.Sums.fold-append, proofs.lemmas.Slice.Eq.{bytes_eq-Decides, strip_suffix_is}, specs.Cmp.Lexicographic.pointwise, specs.List.{AllByRecursion, list_all}, specs.Option.is_some, specs.Prelude.{IfSome, IsOk, MatchOption, OnOk, cond, filter, fold, if◌then◌else◌, nat_lt, ok_or, unwrap_or}, specs.Result.result_ok}
pub use Rattle.hex.{proofs.HexLemmas.decode_of-encode_lower, specs.Hex.{decode_of, digit_or_error, encode_lower, hex_digit_value, lower_digits}, specs.declared.error.FromHexError.FromHexError, specs.declared.error.FromHexError.TheVariants.OddLength}
unfoldable pub use Rattle.hex.specs.Hex.{decode_pairs, encode_with}
pub use Rattle.iso_model.specs.{Labels.{is_digit, is_label, is_label_byte}, Premises.AreBytes, declared.access.Mode.TheVariants.{Serial, Snapshot}, declared.limits.TheConstants.MAX_LINE}
pub use Rattle.script_model.specs.{Script.{bare, begin_arguments, client_in_range, group_arguments, hex_argument, is_printable, is_skipped, key_and_value, label_argument, labels_of, mode_argument, number_and_bytes, number_argument, one_key, one_label, one_number, put_arguments, read_arguments, scan_arguments, store_argument, three_numbers, two_numbers, without_return, write_arguments, ◌>>=◌}, Text.{before_piece, dashed, digit_of, hex_digit, hex_pair, hex_pairs, hex_text, is_decimal, is_empty, pair_text, pieces, value_of}, declared.script.Line.Line, declared.script.Op.Op, declared.script.Op.TheVariants.{Abort, Await, Begin, Compact, End, FileDelete, FileMove, FileNew, FileRead, FileWrite, Fill, Get, Group, HashDelete, HashGet, HashPut, Mark, Put, Read, Release, Stat, Takeover, TreeDelete, TreeGet, TreePut, TreeScan, Trim, Upgrade, Write}, declared.script.Parsed.Parsed, declared.script.Parsed.TheVariants.{Line as Says}, declared.script.Reply.Reply, declared.script.Reply.TheVariants.{Found, Shown}, declared.script.TheConstants.MAX_LABELS}
unfoldable pub use Rattle.script_model.specs.{Script.{file_operation, operation_of, other_operation, parse, said, store_operation, tree_operation}, Text.{hex_of, label_text, number_of, reply_text, words_of}}
pub use borrow.Rule.Slice.PartMut.{put_mid}
pub use Rattle.script_text.specs.{Ending.WithFront, Parsing.{Gives, said_behind}, Printing.{Extends, IsLong}, Spelling.{AreSome, IsLine, IsSayable, arguments_of, line_words, name_of, spaced}, Words.{is_no_space, is_word_byte, may_be_decimal, word_before}, declared.reply.TheConstants.MOST_SHOWN}
unfoldable pub use Rattle.script_text.specs.Spelling.{line_text}
