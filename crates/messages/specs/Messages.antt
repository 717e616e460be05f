-- Document 02, L8, by the sheet's "LPCM heartbeat messages", Tables 28 to 31: a heartbeat's eight bytes.
-- Assumes nothing.
use Rattle.std.specs.Prelude.{Bool, ◌&&◌, List, [], ◌∷◌, ◌++◌, ℕ, eqb, length, take, drop, get_or}
use Rattle.laws.specs.Counts.{same}
use Rattle.pec.specs.Words.{two_bytes, command_check, seal, sealed_right}

-- the code that the monitors send, CMHB, and its check: 00 43 47 B2
abbrev pub cmhb : ℕ
cmhb = 0x0043

unfoldable pub message_head : List ℕ
message_head = two_bytes cmhb ++ command_check cmhb

-- the bytes of a message: its head, the count, the flags, and the two that seal these
abbrev pub message_size : ℕ
message_size = 8

-- as it is sent, with the counter 0
unfoldable pub message : ℕ → ℕ → List ℕ
message count flags = message_head ++ (count ∷ flags ∷ []) ++ seal (count ∷ flags ∷ []) 0

unfoldable pub count_in : List ℕ → ℕ
count_in bytes = get_or bytes 4 0

unfoldable pub flags_in : List ℕ → ℕ
flags_in bytes = get_or bytes 5 0

-- it is right: eight bytes, in command, command check and data check, over the six counter bits as they stand
unfoldable pub message_right : List ℕ → Bool
message_right bytes = eqb (length bytes) message_size && same (take 4 bytes) message_head && sealed_right 2 (drop 4 bytes)

-- the final pass value: the count 42 (hex), to which all that passed have counted it down, and no flag
abbrev pub pass_count : ℕ
pass_count = 0x42

unfoldable pub is_pass : ℕ → ℕ → Bool
is_pass count flags = eqb count pass_count && eqb flags 0
