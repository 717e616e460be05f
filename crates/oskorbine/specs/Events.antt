-- Document 02, L2, as C asks it: what goes on at a monitor while its outputs are asked for, as one byte.
-- Assumes nothing.
use Rattle.std.specs.Prelude.{ℕ}
use Rattle.laws.specs.Bits.{bit_at}
use Rattle.priorities.specs.declared.outputs.Events.{Events}

-- bit 0 thermal shutdown, 1 a measurement that pauses discharge, 2 configuration B being written, 3 a PWM group being written; the other
-- bits are not looked at
unfoldable pub events_in : ℕ → Events
events_in bits = record { shutdown = bit_at 0 bits; measurement = bit_at 1 bits; wrcfgb = bit_at 2 bits; wrpwm = bit_at 3 bits }
