-- Document 02, L8: what becomes of CMC_EN.
-- Assumes nothing.
use Rattle.std.specs.Prelude.{Bool, true, false}
use Rattle.records.specs.declared.commands.Bare.{Bare}
use Rattle.records.specs.declared.commands.Bare.TheVariants.{Mute, Unmute, Rstcc, Ulrr, Clrcell, Snap, Unsnap, Cmen, Cmdis}
use Rattle.records.specs.declared.commands.Command.{Command}
use Rattle.records.specs.declared.commands.Command.TheVariants.{Reads, Writes, Bares, Unlisted}

-- CMC_EN after a command
abbrev pub enabled_by : Bare → Bool → Bool
enabled_by Mute on = on
enabled_by Unmute on = on
enabled_by Rstcc on = on
enabled_by Ulrr on = on
enabled_by Clrcell on = on
enabled_by Snap on = on
enabled_by Unsnap on = on
enabled_by Cmen on = true
enabled_by Cmdis on = false

abbrev pub enabled_after : Command → Bool → Bool
enabled_after (Reads p) on = on
enabled_after (Writes c) on = on
enabled_after (Bares c) on = enabled_by c on
enabled_after Unlisted on = on
