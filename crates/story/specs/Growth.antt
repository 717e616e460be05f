-- The record has grown at its end with the requests of document 02: how many bytes it had with each.
-- Assumes nothing.
use Rattle.std.specs.Prelude.{ℕ}
use Rattle.records.specs.Record.{pwm_a, snapshot, lpcm_configuration, record_size}

-- document 01's record, with L2's, with L6's and with L8's
abbrev pub size01 : ℕ
size01 = pwm_a.at

abbrev pub size_l2 : ℕ
size_l2 = snapshot.at

abbrev pub size_l6 : ℕ
size_l6 = lpcm_configuration.at

abbrev pub size_l8 : ℕ
size_l8 = record_size
