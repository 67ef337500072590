use Rattle.std.proofs.Common.{refl}
use Rattle.std.specs.Fmt.{digits}
use Rattle.round_check.specs.Causes.{double_name, fault_of, field_count, is_typed, missing_round}
use Rattle.round_check.specs.Causes.{no_decision, no_input, not_allowed_here, unknown_name}
use Rattle.round_check.specs.Causes.{wrong_type}
use Rattle.round_lang.specs.Keywords.{call_word, choice_word, constant_word, frame_word, keyword}
use Rattle.round_lang.specs.Keywords.{long_symbol, operator_word, short_symbol, type_word}
use Rattle.round_lang.specs.Lexemes.{same_mark}
use Rattle.round_lang.specs.Parts as parts
use Rattle.round_lang.specs.Reading as reading
use Rattle.round_lang.specs.Scanning.{step, symbol_step}
use Rattle.round_proofs.proofs.CountedTexts.{counted_text}
use Rattle.shelf_proofs.specs.FloodMin.{floodmin_tree}
use Rattle.shelf_proofs.proofs.FloodMinForAll as floodmin
use Rattle.shelf_proofs.proofs.shelf.floodmin.Goals as goal

-- what is read of the text is the program, by computing
pub returns : goal.returns
unfolding digits step symbol_step short_symbol long_symbol keyword frame_word choice_word type_word
    operator_word constant_word call_word same_mark reading.after reading.after_equal
    reading.name_at reading.type_at reading.value_within reading.number_at reading.begins_with
    reading.begins_name reading.same_level reading.operator_at reading.operand reading.chain
    reading.chained reading.compared reading.negated reading.closed reading.indexed
    reading.postfixed reading.called reading.has reading.brackets reading.comprehension reading.atom
    reading.choice reading.chosen reading.products reading.sums reading.negations
    reading.conjunctions reading.disjunctions reading.parse reading.formula parts.counted_name
    parts.many parts.listed parts.state parts.input parts.decide parts.begins_declaration
    parts.declaration parts.declarations parts.declared parts.assignment parts.assignments
    parts.field parts.fields parts.sent parts.head parts.sending parts.on_message parts.ending
    parts.block parts.blocks is_typed fault_of double_name no_input no_decision missing_round
    unknown_name not_allowed_here field_count wrong_type
returns c = record {
  text = counted_text 2000 909 3 _ floodmin_tree refl (λ k. refl) (λ k. refl) (λ k. refl);
  few = floodmin.decides_few;
  validity = floodmin.is_valid;
  finality = floodmin.is_final;
  termination = floodmin.decides;
}
