use Rattle.key_text.proofs.Back.{value_one, list_one, value_text, list_text, value_outside, list_outside, value_back, list_back}
use Rattle.key_text.proofs.Utf8Written.{value_utf8, list_utf8}
use Rattle.key_text.proofs.laws.law_literal_texts.Goals as goal

pub returns : goal.returns
returns c = record { value_text = value_text; list_text = list_text; value_utf8 = value_utf8; list_utf8 = list_utf8; value_one = value_one; list_one = list_one; value_outside = value_outside; list_outside = list_outside; value_back = value_back; list_back = list_back }
