-- Worked examples of heartbeats and of the verdicts on them, by computation.
-- Assumes nothing.
use mathlib.Core.Path.{◌≡◌, refl}
use mathlib.Core.Bool.{true, false, xor}
use mathlib.Core.List.{[], ◌∷◌}
use Rattle.laws.specs.Bits.{◌⊕◌, odd, bits_of, bits_of_bytes}
use Rattle.laws.specs.Counts.{same}
use Rattle.pec.specs.Remainder.{once, step, remainder}
use Rattle.pec.specs.Words.{two_bytes, word_at, pec15, command_check, data_pec, seal, sealed_right}
use Rattle.refusals.specs.declared.Refusal.TheVariants.{LengthWrong}
use Rattle.refusals.specs.Order.{decide}
use Rattle.messages.specs.declared.verdicts.Verdict.TheVariants.{Passed, Failed, Damaged, TimedOut}
use Rattle.messages.specs.Messages.{message_head, message, count_in, flags_in, message_right, is_pass}
use Rattle.messages.specs.Verdicts.{verdict_refusals, verdict_of, verdict}
use Rattle.std.specs.Prelude.{Err, Ok}

-- ---- messages

pub example_head : message_head ≡ 0x00 ∷ 0x43 ∷ 0x47 ∷ 0xB2 ∷ []
unfolding message_head two_bytes command_check pec15 remainder step once bits_of_bytes bits_of odd ◌⊕◌ xor
example_head = refl

pub example_pass : message 0x42 0x00 ≡ 0x00 ∷ 0x43 ∷ 0x47 ∷ 0xB2 ∷ 0x42 ∷ 0x00 ∷ 0x03 ∷ 0x94 ∷ []
unfolding message message_head two_bytes command_check pec15 seal data_pec remainder step once bits_of_bytes bits_of odd ◌⊕◌ xor
example_pass = refl

-- the first of six monitors passed
pub example_first : message 0x47 0x00 ≡ 0x00 ∷ 0x43 ∷ 0x47 ∷ 0xB2 ∷ 0x47 ∷ 0x00 ∷ 0x01 ∷ 0x4E ∷ []
unfolding message message_head two_bytes command_check pec15 seal data_pec remainder step once bits_of_bytes bits_of odd ◌⊕◌ xor
example_first = refl

-- one did not, for a cell over its voltage
pub example_fault : message 0x43 0x02 ≡ 0x00 ∷ 0x43 ∷ 0x47 ∷ 0xB2 ∷ 0x43 ∷ 0x02 ∷ 0x01 ∷ 0xE7 ∷ []
unfolding message message_head two_bytes command_check pec15 seal data_pec remainder step once bits_of_bytes bits_of odd ◌⊕◌ xor
example_fault = refl

-- the six counter bits are taken as they stand: 5, with the check that is theirs; with that of another counter it is wrong
pub example_counter : message_right (0x00 ∷ 0x43 ∷ 0x47 ∷ 0xB2 ∷ 0x42 ∷ 0x00 ∷ 0x15 ∷ 0x27 ∷ []) ≡ true
unfolding message_right message_head same sealed_right word_at two_bytes command_check pec15 data_pec remainder step once bits_of_bytes bits_of odd ◌⊕◌ xor
example_counter = refl

pub example_other_counter : message_right (0x00 ∷ 0x43 ∷ 0x47 ∷ 0xB2 ∷ 0x42 ∷ 0x00 ∷ 0x17 ∷ 0x94 ∷ []) ≡ false
unfolding message_right message_head same sealed_right word_at two_bytes command_check pec15 data_pec remainder step once bits_of_bytes bits_of odd ◌⊕◌ xor
example_other_counter = refl

-- another command, with its own check right: CMDIS
pub example_command : message_right (0x00 ∷ 0x40 ∷ 0x51 ∷ 0xD6 ∷ 0x42 ∷ 0x00 ∷ 0x03 ∷ 0x94 ∷ []) ≡ false
unfolding message_right message_head same sealed_right word_at two_bytes command_check pec15 data_pec remainder step once bits_of_bytes bits_of odd ◌⊕◌ xor
example_command = refl

-- ---- verdicts

-- nothing: it is late, or the length is wrong
pub example_none-late : verdict [] true ≡ Ok TimedOut
unfolding verdict verdict_refusals verdict_of decide
example_none-late = refl

pub example_none : verdict [] false ≡ Err LengthWrong
unfolding verdict verdict_refusals verdict_of decide
example_none = refl

-- a byte too few, and one too many, late or not
pub example_seven : verdict (0x00 ∷ 0x43 ∷ 0x47 ∷ 0xB2 ∷ 0x42 ∷ 0x00 ∷ 0x03 ∷ []) false ≡ Err LengthWrong
unfolding verdict verdict_refusals verdict_of decide
example_seven = refl

pub example_seven_late : verdict (0x00 ∷ 0x43 ∷ 0x47 ∷ 0xB2 ∷ 0x42 ∷ 0x00 ∷ 0x03 ∷ []) true ≡ Err LengthWrong
unfolding verdict verdict_refusals verdict_of decide
example_seven_late = refl

pub example_nine : verdict (0x00 ∷ 0x43 ∷ 0x47 ∷ 0xB2 ∷ 0x42 ∷ 0x00 ∷ 0x03 ∷ 0x94 ∷ 0x00 ∷ []) false ≡ Err LengthWrong
unfolding verdict verdict_refusals verdict_of decide
example_nine = refl

pub example_nine_late : verdict (0x00 ∷ 0x43 ∷ 0x47 ∷ 0xB2 ∷ 0x42 ∷ 0x00 ∷ 0x03 ∷ 0x94 ∷ 0x00 ∷ []) true ≡ Err LengthWrong
unfolding verdict verdict_refusals verdict_of decide
example_nine_late = refl

-- eight bytes: passed, one too many on the count, a flag, and a bit of the check turned over
pub example_passed : verdict (0x00 ∷ 0x43 ∷ 0x47 ∷ 0xB2 ∷ 0x42 ∷ 0x00 ∷ 0x03 ∷ 0x94 ∷ []) false ≡ Ok Passed
unfolding verdict verdict_refusals verdict_of decide message_right message_head same sealed_right word_at two_bytes command_check pec15 data_pec remainder step once bits_of_bytes bits_of odd ◌⊕◌ xor is_pass count_in flags_in
example_passed = refl

pub example_failed_count : verdict (0x00 ∷ 0x43 ∷ 0x47 ∷ 0xB2 ∷ 0x43 ∷ 0x00 ∷ 0x03 ∷ 0x06 ∷ []) false ≡ Ok (Failed 0x43 0x00)
unfolding verdict verdict_refusals verdict_of decide message_right message_head same sealed_right word_at two_bytes command_check pec15 data_pec remainder step once bits_of_bytes bits_of odd ◌⊕◌ xor is_pass count_in flags_in
example_failed_count = refl

pub example_failed_flags : verdict (0x00 ∷ 0x43 ∷ 0x47 ∷ 0xB2 ∷ 0x42 ∷ 0x01 ∷ 0x00 ∷ 0xA3 ∷ []) false ≡ Ok (Failed 0x42 0x01)
unfolding verdict verdict_refusals verdict_of decide message_right message_head same sealed_right word_at two_bytes command_check pec15 data_pec remainder step once bits_of_bytes bits_of odd ◌⊕◌ xor is_pass count_in flags_in
example_failed_flags = refl

pub example_damaged : verdict (0x00 ∷ 0x43 ∷ 0x47 ∷ 0xB2 ∷ 0x42 ∷ 0x00 ∷ 0x03 ∷ 0x95 ∷ []) false ≡ Ok Damaged
unfolding verdict verdict_refusals verdict_of decide message_right message_head same sealed_right word_at two_bytes command_check pec15 data_pec remainder step once bits_of_bytes bits_of odd ◌⊕◌ xor is_pass count_in flags_in
example_damaged = refl

pub example_damaged_late : verdict (0x00 ∷ 0x43 ∷ 0x47 ∷ 0xB2 ∷ 0x42 ∷ 0x00 ∷ 0x03 ∷ 0x95 ∷ []) true ≡ Ok TimedOut
unfolding verdict verdict_refusals verdict_of decide
example_damaged_late = refl

pub example_passed-late : verdict (0x00 ∷ 0x43 ∷ 0x47 ∷ 0xB2 ∷ 0x42 ∷ 0x00 ∷ 0x03 ∷ 0x94 ∷ []) true ≡ Ok TimedOut
unfolding verdict verdict_refusals verdict_of decide
example_passed-late = refl
