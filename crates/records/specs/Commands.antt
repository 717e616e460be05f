-- Document 01, "Commands", and document 02, L2, L6 and L8: the list of commands, their kinds, the length that a frame must have and the length of a reply.
-- Assumes nothing.
use Rattle.std.specs.Prelude.{Bool, true, false, cond, List, [], ◌∷◌, ℕ, ◌+◌, ◌*◌, eqb}
use Rattle.records.specs.declared.commands.Write.{Write}
use Rattle.records.specs.declared.commands.Write.TheVariants.{Wrcfga, Wrcfgb, Wrrr, Clrflag, Clovuv, Wrpwma, Wrpwmb, Wrcmcfg, Wrcmcellt, Wrcmgpiot, Clrcmflag}
use Rattle.records.specs.declared.commands.Bare.TheVariants.{Mute, Unmute, Rstcc, Ulrr, Clrcell, Snap, Unsnap, Cmen, Cmdis}
use Rattle.records.specs.declared.commands.Command.{Command}
use Rattle.records.specs.declared.commands.Command.TheVariants.{Reads, Writes, Bares, Unlisted}
use Rattle.records.specs.declared.record.Part.{Part}
use Rattle.records.specs.Record.{configuration_a, configuration_b, three_cells, cell16, status_c, status_d, serial_id, retention, pwm_a, pwm_b, lpcm_configuration, lpcm_cell_thresholds, lpcm_gpio_thresholds, lpcm_flags}

-- the part of the record that each read names: it shows that part, or of the cells, while a snapshot is on, the same part of their copy (`reads`)
abbrev pub rdcfga : Part
rdcfga = configuration_a

abbrev pub rdcfgb : Part
rdcfgb = configuration_b

abbrev pub rdcva : Part
rdcva = three_cells 0

abbrev pub rdcvb : Part
rdcvb = three_cells 1

abbrev pub rdcvc : Part
rdcvc = three_cells 2

abbrev pub rdcvd : Part
rdcvd = three_cells 3

abbrev pub rdcve : Part
rdcve = three_cells 4

abbrev pub rdcvf : Part
rdcvf = cell16

abbrev pub rdstatc : Part
rdstatc = status_c

abbrev pub rdstatd : Part
rdstatd = status_d

abbrev pub rdsid : Part
rdsid = serial_id

abbrev pub rdrr : Part
rdrr = retention

abbrev pub rdpwma : Part
rdpwma = pwm_a

abbrev pub rdpwmb : Part
rdpwmb = pwm_b

abbrev pub rdcmcfg : Part
rdcmcfg = lpcm_configuration

abbrev pub rdcmcellt : Part
rdcmcellt = lpcm_cell_thresholds

abbrev pub rdcmgpiot : Part
rdcmgpiot = lpcm_gpio_thresholds

abbrev pub rdcmflag : Part
rdcmflag = lpcm_flags

-- a code, and the command that it stands for
pub record Row : Type 0 where
  pub code : ℕ
  pub command : Command

abbrev row : ℕ → Command → Row
row code command = record { code = code; command = command }

-- the reads by the part that they name, the writes and the bare commands by their own names
unfoldable pub commands : List Row
commands =
    row 0x0002 (Reads rdcfga)
    ∷ row 0x0026 (Reads rdcfgb)
    ∷ row 0x0004 (Reads rdcva)
    ∷ row 0x0006 (Reads rdcvb)
    ∷ row 0x0008 (Reads rdcvc)
    ∷ row 0x000A (Reads rdcvd)
    ∷ row 0x0009 (Reads rdcve)
    ∷ row 0x000B (Reads rdcvf)
    ∷ row 0x0032 (Reads rdstatc)
    ∷ row 0x0033 (Reads rdstatd)
    ∷ row 0x002C (Reads rdsid)
    ∷ row 0x003A (Reads rdrr)
    ∷ row 0x0022 (Reads rdpwma)
    ∷ row 0x0023 (Reads rdpwmb)
    ∷ row 0x0059 (Reads rdcmcfg)
    ∷ row 0x005B (Reads rdcmcellt)
    ∷ row 0x005D (Reads rdcmgpiot)
    ∷ row 0x005F (Reads rdcmflag)
    ∷ row 0x0001 (Writes Wrcfga)
    ∷ row 0x0024 (Writes Wrcfgb)
    ∷ row 0x0039 (Writes Wrrr)
    ∷ row 0x0717 (Writes Clrflag)
    ∷ row 0x0715 (Writes Clovuv)
    ∷ row 0x0020 (Writes Wrpwma)
    ∷ row 0x0021 (Writes Wrpwmb)
    ∷ row 0x0058 (Writes Wrcmcfg)
    ∷ row 0x005A (Writes Wrcmcellt)
    ∷ row 0x005C (Writes Wrcmgpiot)
    ∷ row 0x005E (Writes Clrcmflag)
    ∷ row 0x0028 (Bares Mute)
    ∷ row 0x0029 (Bares Unmute)
    ∷ row 0x002E (Bares Rstcc)
    ∷ row 0x0038 (Bares Ulrr)
    ∷ row 0x0711 (Bares Clrcell)
    ∷ row 0x002D (Bares Snap)
    ∷ row 0x002F (Bares Unsnap)
    ∷ row 0x0041 (Bares Cmen)
    ∷ row 0x0040 (Bares Cmdis)
    ∷ []

-- the command of the first row that has the code
unfoldable pub command_of : ℕ → List Row → Command
command_of code [] = Unlisted
command_of code (row ∷ rows) = cond (eqb row.code code) row.command (command_of code rows)

abbrev pub is_listed : Command → Bool
is_listed (Reads part) = true
is_listed (Writes c) = true
is_listed (Bares c) = true
is_listed Unlisted = false

-- the monitors that a chain has at most
abbrev pub most_monitors : ℕ
most_monitors = 32

-- the data bytes that a write sends to each monitor
abbrev pub data_size : Write → ℕ
data_size Wrcfga = 6
data_size Wrcfgb = 6
data_size Wrrr = 6
data_size Clrflag = 6
data_size Clovuv = 6
data_size Wrpwma = 6
data_size Wrpwmb = 6
data_size Wrcmcfg = 6
data_size Wrcmcellt = 6
data_size Wrcmgpiot = 6
data_size Clrcmflag = 2

-- the two bytes that seal the data: the counter, and the check
abbrev pub seal_size : ℕ
seal_size = 2

-- the data bytes of one monitor's reply
abbrev pub register_size : ℕ
register_size = 6

-- the bytes of one monitor's reply: its data, and their seal
abbrev pub payload_size : ℕ
payload_size = 8

-- the bytes of each monitor in a frame, and of its window: a read's are its reply's, a write's its data and their seal. A bare command's
-- frame has no byte that this could cut, and fills no window
abbrev pub width_of : Command → ℕ
width_of (Reads part) = payload_size
width_of (Writes c) = data_size c + seal_size
width_of (Bares c) = payload_size
width_of Unlisted = payload_size

-- the bytes of a frame for n monitors: a command and its check, and in a read or a write those of each monitor
abbrev pub frame_length : Command → ℕ → ℕ
frame_length (Reads part) n = 4 + payload_size * n
frame_length (Writes c) n = 4 + width_of (Writes c) * n
frame_length (Bares c) n = 4
frame_length Unlisted n = 4

-- the bytes of the reply of n monitors: to a read eight for each monitor, to any other command none
abbrev pub reply_length : Command → ℕ → ℕ
reply_length (Reads part) n = payload_size * n
reply_length (Writes c) n = 0
reply_length (Bares c) n = 0
reply_length Unlisted n = 0
