-- Document 01, "Readings and thresholds", and WRCFGB's sentence: the two thresholds of a record; those of LPCM (document 02, L8) lie alike in another
-- part. A count of codes and a count of threshold steps each have their own kind: the code's two structs.
-- Assumes nothing.
use Rattle.std.specs.Prelude.{cond, List, ℕ, suc, ◌+◌, ◌-◌, ◌*◌, ◌/◌, ◌%◌, ◌^◌, ltb, ℤ, pos, negsuc, ◌*ℤ◌}
use Rattle.records.specs.declared.record.Part.{Part}
use Rattle.records.specs.Record.{configuration_b, byte_in}
use Rattle.thresholds.specs.declared.thresholds.ResultCode.{ResultCode}
use Rattle.thresholds.specs.declared.thresholds.ThresholdStep.{ThresholdStep}

-- a number of k bits read as two's complement
unfoldable pub signed : ℕ → ℕ → ℤ
signed k n = cond (ltb n (2 ^ (k - 1))) (pos n) (negsuc (2 ^ k - suc n))

-- the lower threshold of a part that begins with two: byte 0 with the low half of byte 1 above it
unfoldable pub lower : Part → List ℕ → ThresholdStep
lower p r = record { 0 = signed 12 (byte_in p r 0 + byte_in p r 1 % 16 * 256) }

-- and the upper one: the high half of byte 1 with byte 2 above it
unfoldable pub upper : Part → List ℕ → ThresholdStep
upper p r = record { 0 = signed 12 (byte_in p r 1 / 16 + byte_in p r 2 * 16) }

-- VUV and VOV are those of configuration B
unfoldable pub vuv : List ℕ → ThresholdStep
vuv r = lower configuration_b r

unfoldable pub vov : List ℕ → ThresholdStep
vov r = upper configuration_b r

-- a threshold counts steps of 16 codes
unfoldable pub codes_of : ThresholdStep → ResultCode
codes_of s = record { 0 = s.0 *ℤ pos 16 }
