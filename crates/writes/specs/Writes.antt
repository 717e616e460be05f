-- Document 01, "Effects", and document 02, L2, L3 and L8: whether a write needs its check right, and what a taken write does to its bytes of a record.
-- The second depends on the write, on what was sent, on the record and on the retention byte before the command.
-- Assumes nothing.
use Rattle.std.specs.Prelude.{Bool, true, false, cond, not, ◌||◌, List, [], ◌∷◌, ℕ, ◌-◌, eqb, get_or}
use Rattle.std.specs.Int.Bits.{bit_and, bit_or}
use Rattle.records.specs.declared.commands.Write.{Write}
use Rattle.records.specs.declared.commands.Write.TheVariants.{Wrcfga, Wrcfgb, Wrrr, Clrflag, Clovuv, Wrpwma, Wrpwmb, Wrcmcfg, Wrcmcellt, Wrcmgpiot, Clrcmflag}
use Rattle.writes.specs.declared.writes.Rules.{Rules}
use Rattle.records.specs.Record.{configuration_a, configuration_b, status_c, status_d, retention, pwm_a, pwm_b, lpcm_configuration, lpcm_cell_thresholds, lpcm_gpio_thresholds, lpcm_flags, anew}
use Rattle.records.specs.Commands.{data_size}

-- bytes of 1s, and of 0s
abbrev all : List ℕ
all = 0xFF ∷ 0xFF ∷ 0xFF ∷ 0xFF ∷ 0xFF ∷ 0xFF ∷ []

abbrev none : List ℕ
none = 0 ∷ 0 ∷ 0 ∷ 0 ∷ 0 ∷ 0 ∷ []

-- the bits of an LPCM threshold register that are there: three thresholds of 12 bits
abbrev thresholds : List ℕ
thresholds = 0xFF ∷ 0xFF ∷ 0xFF ∷ 0xFF ∷ 0x0F ∷ 0 ∷ []

-- whether a write is taken only with its data check right (`needs_check`), where its data bytes go, and what it does to each bit there, by masks
-- of which as many bytes count as it has data: `stored` bits become as sent, `kept` bits stay as they were, but for those that are `clearable` and sent as 1, `ones` become 1; every
-- other bit becomes 0. WRRR does so whatever its check, and only where the retention was unlocked
abbrev pub rules_of : Write → Rules
rules_of Wrcfga = record { needs_check = true; only_unlocked = false; at = configuration_a.at; stored = 0x87 ∷ 0xFF ∷ 0xF8 ∷ 0xFF ∷ 0x03 ∷ 0x0F ∷ []; kept = 0 ∷ 0 ∷ 0 ∷ 0 ∷ 0 ∷ 0x30 ∷ []; clearable = none; ones = none }
rules_of Wrcfgb = record { needs_check = true; only_unlocked = false; at = configuration_b.at; stored = all; kept = none; clearable = none; ones = none }
rules_of Wrrr = record { needs_check = false; only_unlocked = true; at = retention.at; stored = all; kept = none; clearable = none; ones = none }
rules_of Clrflag = record { needs_check = true; only_unlocked = false; at = status_c.at; stored = none; kept = all; clearable = 0xFF ∷ 0xFF ∷ 0 ∷ 0 ∷ 0xFF ∷ 0xDF ∷ []; ones = none }
rules_of Clovuv = record { needs_check = true; only_unlocked = false; at = status_d.at; stored = none; kept = all; clearable = 0xFF ∷ 0xFF ∷ 0xFF ∷ 0xFF ∷ 0 ∷ 0 ∷ []; ones = none }
rules_of Wrpwma = record { needs_check = true; only_unlocked = false; at = pwm_a.at; stored = all; kept = none; clearable = none; ones = none }
rules_of Wrpwmb = record { needs_check = true; only_unlocked = false; at = pwm_b.at; stored = 0xFF ∷ 0xFF ∷ 0 ∷ 0 ∷ 0 ∷ 0 ∷ []; kept = none; clearable = none; ones = 0 ∷ 0 ∷ 0xFF ∷ 0xFF ∷ 0xFF ∷ 0xFF ∷ [] }
rules_of Wrcmcfg = record { needs_check = true; only_unlocked = false; at = lpcm_configuration.at; stored = all; kept = none; clearable = none; ones = none }
rules_of Wrcmcellt = record { needs_check = true; only_unlocked = false; at = lpcm_cell_thresholds.at; stored = thresholds; kept = none; clearable = none; ones = none }
rules_of Wrcmgpiot = record { needs_check = true; only_unlocked = false; at = lpcm_gpio_thresholds.at; stored = thresholds; kept = none; clearable = none; ones = none }
rules_of Clrcmflag = record { needs_check = true; only_unlocked = false; at = lpcm_flags.at; stored = none; kept = all; clearable = 0xFF ∷ 0 ∷ 0 ∷ 0 ∷ 0 ∷ 0 ∷ []; ones = none }

-- the writes that store six bytes as they are sent
abbrev pub stores_whole : Write → Bool
stores_whole Wrcfga = false
stores_whole Wrcfgb = true
stores_whole Wrrr = true
stores_whole Clrflag = false
stores_whole Clovuv = false
stores_whole Wrpwma = true
stores_whole Wrpwmb = false
stores_whole Wrcmcfg = true
stores_whole Wrcmcellt = false
stores_whole Wrcmgpiot = false
stores_whole Clrcmflag = false

-- byte i by such rules, from what was sent and what it was
unfoldable pub changed : Rules → List ℕ → ℕ → ℕ → ℕ
changed rules sent i old =
    bit_or
    (bit_or (bit_and (get_or sent i 0) (get_or rules.stored i 0))
    (bit_and old (bit_and (get_or rules.kept i 0) (255 - bit_and (get_or sent i 0) (get_or rules.clearable i 0)))))
    (get_or rules.ones i 0)

-- a write's bytes by its rules
unfoldable pub by_rules : Write → List ℕ → List ℕ → List ℕ
by_rules c sent r = anew (changed (rules_of c) sent) (rules_of c).at (data_size c) r

-- a write changes something, by the retention byte before the command
unfoldable pub opens : Rules → ℕ → Bool
opens rules was = not rules.only_unlocked || eqb was 1

-- what a taken write does to a record
unfoldable pub written : Write → ℕ → List ℕ → List ℕ → List ℕ
written c was sent r = cond (opens (rules_of c) was) (by_rules c sent r) r
