-- What a command may change of a record: the retention byte, the counter where it counts, and the parts that are its own. Which parts it then
-- spares, and where its own parts end.
-- Assumes nothing.
use Rattle.std.specs.Prelude.{List, [], ◌∷◌, ℕ, ◌+◌, ◌≤◌}
use Rattle.records.specs.declared.commands.Bare.{Bare}
use Rattle.records.specs.declared.commands.Bare.TheVariants.{Mute, Unmute, Rstcc, Ulrr, Clrcell, Snap, Unsnap, Cmen, Cmdis}
use Rattle.records.specs.declared.commands.Command.{Command}
use Rattle.records.specs.declared.commands.Command.TheVariants.{Reads, Writes, Bares, Unlisted}
use Rattle.records.specs.declared.commands.Write.{Write}
use Rattle.records.specs.declared.record.Part.{Part}
use Rattle.records.specs.Record.{cells, counter, unlocked, snapshot, status_bits, cmf1, last_cells, Outside}
use Rattle.records.specs.Commands.{data_size}
use Rattle.writes.specs.Writes.{rules_of}

-- ---- a command's own parts

abbrev pub sent_to : Write → Part
sent_to c = record { at = (rules_of c).at; size = data_size c }

abbrev pub parts_of : Bare → List Part
parts_of Mute = status_bits ∷ []
parts_of Unmute = status_bits ∷ []
parts_of Rstcc = counter ∷ []
parts_of Ulrr = unlocked ∷ []
parts_of Clrcell = cells ∷ []
parts_of Snap = status_bits ∷ snapshot ∷ []
parts_of Unsnap = status_bits ∷ []
parts_of Cmen = cmf1 ∷ last_cells ∷ []
parts_of Cmdis = cmf1 ∷ []

-- ---- what it spares

-- a part that has no byte of another
abbrev pub Apart : Part → Part → Type 0
Apart p q = Outside p q.at q.size

-- nor of any of several
abbrev pub ApartFrom : Part → List Part → Type 0
ApartFrom p [] = Unit {0}
ApartFrom p (q ∷ qs) = Apart p q × ApartFrom p qs

-- a part that has no byte of what a command may change
abbrev pub Spares : Command → Part → Type 0
Spares (Reads q) p = Apart p unlocked
Spares (Writes c) p = Apart p unlocked × (Apart p counter × Apart p (sent_to c))
Spares (Bares c) p = Apart p unlocked × (Apart p counter × ApartFrom p (parts_of c))
Spares Unlisted p = Unit {0}

-- parts that end before a place
abbrev pub EndBefore : List Part → ℕ → Type 0
EndBefore [] n = Unit {0}
EndBefore (q ∷ qs) n = (q.at + q.size ≤ n) × EndBefore qs n

-- a command's own parts end before a place
abbrev pub Before : Command → ℕ → Type 0
Before (Reads q) n = Unit {0}
Before (Writes c) n = (sent_to c).at + (sent_to c).size ≤ n
Before (Bares c) n = EndBefore (parts_of c) n
Before Unlisted n = Unit {0}
