-- What contracts and proofs name, for one import a file. Nothing is declared here.
pub use Rattle.jsonpath_parser.specs.declared.errors.JsonPathError.{JsonPathError}
pub use Rattle.jsonpath_parser.specs.declared.errors.JsonPathError.TheVariants.{OutOfMemory}
pub use Rattle.jsonpath_parser.specs.declared.grammar.literals.NumberMode.{NumberMode}
pub use Rattle.jsonpath_parser.specs.declared.grammar.literals.NumberMode.TheVariants.{Any, Valued}
pub use Rattle.jsonpath_parser.specs.declared.tree.model.Comparable.{Comparable}
pub use Rattle.jsonpath_parser.specs.declared.tree.model.Comparison.{Comparison}
pub use Rattle.jsonpath_parser.specs.declared.tree.model.Filter.{the_lemmas}
pub use Rattle.jsonpath_parser.specs.declared.tree.model.FilterAtom.{FilterAtom}
pub use Rattle.jsonpath_parser.specs.declared.tree.model.FnArg.{FnArg}
pub use Rattle.jsonpath_parser.specs.declared.tree.model.JpQuery.{JpQuery}
pub use Rattle.jsonpath_parser.specs.declared.tree.model.SingularQuery.{SingularQuery}
pub use Rattle.jsonpath_parser.specs.declared.tree.model.SingularQuerySegment.{SingularQuerySegment}
pub use Rattle.jsonpath_parser.specs.declared.tree.model.TestFunction.{TestFunction}
pub use Rattle.jsonpath_parser.specs.declared.words.parse_error.ParseError.{ParseError}
pub use Rattle.jsonpath_parser.specs.declared.words.parse_error.ParseError.TheVariants.{Memory}
pub use Rattle.jsonpath_parser.specs.Derives.{Derives, IsRefusal}
pub use Rattle.jsonpath_parser.specs.Equality.{IsEqualityOf}
pub use Rattle.jsonpath_parser.specs.Errors.{error_view}
pub use Rattle.jsonpath_parser.specs.Grammar.{Behind, Between, is_basic, is_conjunction, IsCustomName, IsInRange, IsNoBareTest, IsNothing, IsPlural, IsSeveral, Spells, SpellsAnd, SpellsArgument, SpellsArguments, SpellsBound, SpellsCall, SpellsCalled, SpellsIndex, SpellsInt, SpellsLiteral, SpellsLogical, SpellsMoreAnd, SpellsMoreArguments, SpellsMoreOr, SpellsMoreSelectors, SpellsNot, SpellsOperator, SpellsOr, SpellsPositive, SpellsSegment, SpellsSegments, SpellsSelector, SpellsSelectors, SpellsShorthand, SpellsSlice, SpellsStep, SpellsTest, Then}
pub use Rattle.jsonpath_parser.specs.inner.ReadingGrammar.{ands_at, arguments_at, comparable_of, filter_of, is_int_first, is_operator_first, is_twice, IsAny, operand_behind, ors_at, segments_at, selection_of, selectors_at, starts_segment, steps_in, steps_of, word_literal}
unfoldable pub use Rattle.jsonpath_parser.specs.inner.ReadingGrammar.{all_arguments_at, all_segments_at, argument_at, basic_at, called_at, compared_at, conjunction_at, descendant_at, disjunction_at, end_at, group_at, logical_at, negated_at, number_reading, numbered_at, operand_at, operator_at, plain_at, query_at, segment_at, selection_at, selector_at, shorthand_at, slice_at, step_at, whole_query, word_at, word_operand_at}
pub use Rattle.jsonpath_parser.specs.inner.ReadingLists.{found_then}
unfoldable pub use Rattle.jsonpath_parser.specs.inner.ReadingLists.{many_at, separated_at}
pub use Rattle.jsonpath_parser.specs.inner.ReadingParts.{IsAnswer, IsCursorRefusal, slice_in, StaysInText, Accepts}
unfoldable pub use Rattle.jsonpath_parser.specs.inner.ReadingParts.{taken_at}
pub use Rattle.jsonpath_parser.specs.inner.ReadingQuery.{IsReadRefusal}
pub use Rattle.jsonpath_parser.specs.Location.{Begins, Location, Step}
pub use Rattle.jsonpath_parser.specs.Normal.{index_digits, IsNormal, name_char, step_text, steps_text}
unfoldable pub use Rattle.jsonpath_parser.specs.Normal.{name_chars}
pub use Rattle.jsonpath_parser.specs.Parts.{always, is_comparison, ReadsPart, rest_of, Spelling, SpellsBasic, SpellsChild, SpellsComparable, SpellsComparison, SpellsConjunction, SpellsRelative, SpellsSingular, SpellsSliceParts, SpellsSteps, text_of}
pub use Rattle.jsonpath_parser.specs.tree.Making.{Makes, operator_of}
pub use Rattle.jsonpath_parser.specs.tree.QueryTexts.{arguments_text, filters_text, query_text, segment_text, segments_text, selectors_text}
pub use Rattle.jsonpath_parser.specs.tree.Shown.{argument_shown, filter_shown, joined, not_shown, segment_shown, segments_shown, selector_shown}
pub use Rattle.jsonpath_parser.specs.tree.Steps.{HasIndexesInRange, steps_query}
pub use Rattle.jsonpath_parser.specs.tree.Syntax.{absolute, and, Argument, argument, Arguments, bool, Call, call, compare, count_call, custom_call, descendant, equal, Filter, filter, filter_argument, filter_then, Filters, greater, greater_or_equal, group, index, length_call, less, less_or_equal, list_of, Literal, literal_argument, match_call, name, no_arguments, no_filters, no_segments, no_selectors, not_equal, null, number, one, Operator, or, Query, relative, search_call, Segment, segment, Segments, Selector, selector, Selectors, several, slice, string, Test, test, test_argument, value_call, wildcard}
pub use Rattle.jsonpath_parser.specs.tree.Typing.{are_typed_arguments, are_typed_filters, are_typed_selectors, call_of, is_comparable, is_singular, is_singular_test, is_step, is_table_name, is_typed, is_typed_argument, is_typed_call, is_typed_filter, is_typed_segment, is_typed_selector, is_typed_side, one_argument, two_arguments, Typed}
pub use Rattle.jsonpath_parser.specs.tree.View.{argument_view, arguments_of, arguments_view, atom_view, call_view, comparable_view, comparison_view, filter_view, filters_of, filters_view, literal_view, operator_view, query_view, segment_view, segments_of, segments_view, selector_view, selectors_of, selectors_view, singular_view, step_view, steps_view, test_view}
pub use Rattle.jsonpath_parser.specs.Unambiguous.{IsUnambiguous, NoTextDerivesTwoTrees}
pub use Rattle.jsonpath_parser.specs.Valueless.{IsValuelessIn}
pub use Rattle.jsonpath_parser.specs.Values.{IsValued}
pub use Rattle.jsonpath_parser.specs.words.Depth.{closes, depth, depth_from, inside, next_place, opens, outside}
pub use Rattle.jsonpath_parser.specs.words.inner.Places.{place_view}
pub use Rattle.jsonpath_parser.specs.words.inner.Reading.{after_byte, first, Gives, is_magnitude, Read, Reads, split_while}
unfoldable pub use Rattle.jsonpath_parser.specs.words.inner.Reading.{int_at, magnitude_at, name_at, skip_blank}
pub use Rattle.jsonpath_parser.specs.words.inner.ReadingNumbers.{exponent_view, IsTrimmed, IsUnheld, number_of}
unfoldable pub use Rattle.jsonpath_parser.specs.words.inner.ReadingNumbers.{digits_at, exponent_at, fraction_at, number_at, scaled_value, sign_at, signed_digits_at, whole_part_at}
unfoldable pub use Rattle.jsonpath_parser.specs.words.inner.ReadingStrings.{char_at, chars_at, code_value, escape_at, low_at, string_at, unicode_at}
pub use Rattle.jsonpath_parser.specs.words.Lexical.{is_blank, is_function_byte, is_function_first, is_name_byte, is_name_first, is_quote, IsBlank, IsFunctionName, IsName, IsRun}
pub use Rattle.jsonpath_parser.specs.words.Numbers.{down, Exponent, is_exponent_mark, IsDigits, IsLong, IsValue, IsWholePart, lowered, raised, signed, SpellsExponent, SpellsFraction, SpellsNumber, SpellsSign, up}
pub use Rattle.jsonpath_parser.specs.words.Strings.{escaped, is_hex_digit, is_high_surrogate, is_low_surrogate, is_plain, pair_code, SpellsChar, SpellsChars, SpellsCode, SpellsString}
pub use Rattle.std.specs.Bool.{Decides}
pub use Rattle.std.specs.Char.{digit_char, digit_value, encode_utf8, is_ascii_digit}
pub use Rattle.std.specs.Fmt.{decimal, signed_decimal}
pub use Rattle.std.specs.Int.Digits.{AllBelowBase, digits_of}
pub use Rattle.std.specs.Int.Signed.{le_z}
pub use Rattle.std.specs.List.{concat, list_all, prefix_len}
pub use Rattle.std.specs.Option.{option_map}
pub use Rattle.std.specs.Str.{IsCharBoundary, IsUtf8}
pub use Rattle.std.specs.Str.Parse.{digits_value, digits_value_after, ParsesUnsigned}
pub use Rattle.jsonpath_parser.specs.inner.Picked.{picked_of}
pub use Rattle.jsonpath_parser.specs.Slice.{clamped, normalized, slice_by}
unfoldable pub use Rattle.jsonpath_parser.specs.Slice.{slice_of}
unfoldable pub use Rattle.jsonpath_parser.specs.SliceSteps.{places_left}
pub use Rattle.jsonpath_parser.specs.Texts.{is_less}
