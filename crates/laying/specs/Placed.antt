-- Bytes laid into a buffer: those before and behind them stay.
-- Assumes nothing.
use Rattle.std.specs.Prelude.{Bool, List, ◌++◌, ℕ, ◌+◌, leb, length, take, drop}

-- bytes in the place of as many bytes of a buffer, from `at` on
unfoldable pub placed : ℕ → List ℕ → List ℕ → List ℕ
placed at bytes buffer = take at buffer ++ bytes ++ drop (at + length bytes) buffer

-- does the buffer have a place for each of them?
abbrev pub fits : ℕ → List ℕ → List ℕ → Bool
fits at bytes buffer = leb (at + length bytes) (length buffer)
