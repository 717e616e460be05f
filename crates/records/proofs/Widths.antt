-- How many bytes each monitor has in a frame: some data and a seal, and never more than a reply. A write has six of data or two.
-- Assumes nothing.
use mathlib.Core.Path.{◌≡◌, refl}
use mathlib.Core.Logic.{◌⊎◌, inl, inr}
use Prim.Native.Nat.{◌≤◌}
use native.Mathlib.Omega.{arith}
use lib.Dec.{lit≤}
use Rattle.records.specs.declared.commands.Command.{Command}
use Rattle.records.specs.declared.commands.Command.TheVariants.{Reads, Writes, Bares, Unlisted}
use Rattle.records.specs.declared.commands.Write.{Write}
use Rattle.records.specs.declared.commands.Write.TheVariants.{Wrcfga, Wrcfgb, Wrrr, Clrflag, Clovuv, Wrpwma, Wrpwmb, Wrcmcfg, Wrcmcellt, Wrcmgpiot, Clrcmflag}
use Rattle.records.specs.Commands.{data_size, payload_size, width_of}

pub six_or_two : (c : Write) → (data_size c ≡ 6) ⊎ (data_size c ≡ 2)
six_or_two Wrcfga = inl refl
six_or_two Wrcfgb = inl refl
six_or_two Wrrr = inl refl
six_or_two Clrflag = inl refl
six_or_two Clovuv = inl refl
six_or_two Wrpwma = inl refl
six_or_two Wrpwmb = inl refl
six_or_two Wrcmcfg = inl refl
six_or_two Wrcmcellt = inl refl
six_or_two Wrcmgpiot = inl refl
six_or_two Clrcmflag = inr refl

-- all six but CLRCMFLAG
pub six_but_clrcmflag : (c : Write) → (c ≡ Clrcmflag → ⊥) → data_size c ≡ 6
six_but_clrcmflag Wrcfga other = refl
six_but_clrcmflag Wrcfgb other = refl
six_but_clrcmflag Wrrr other = refl
six_but_clrcmflag Clrflag other = refl
six_but_clrcmflag Clovuv other = refl
six_but_clrcmflag Wrpwma other = refl
six_but_clrcmflag Wrpwmb other = refl
six_but_clrcmflag Wrcmcfg other = refl
six_but_clrcmflag Wrcmcellt other = refl
six_but_clrcmflag Wrcmgpiot other = refl
six_but_clrcmflag Clrcmflag other = absurd (other refl)

module _ (c : Write) where
  pub data_most : data_size c ≤ 6
  data_most = by_size (six_or_two c)
    where
      by_size : (data_size c ≡ 6) ⊎ (data_size c ≡ 2) → data_size c ≤ 6
      by_size (inl e) = omega (arith, e)
      by_size (inr e) = omega (arith, e)

  pub data_some : 2 ≤ data_size c
  data_some = by_size (six_or_two c)
    where
      by_size : (data_size c ≡ 6) ⊎ (data_size c ≡ 2) → 2 ≤ data_size c
      by_size (inl e) = omega (arith, e)
      by_size (inr e) = omega (arith, e)

pub width_most : (c : Command) → width_of c ≤ payload_size
width_most (Reads part) = lit≤ tt
width_most (Writes c) = omega (arith, data_most c)
width_most (Bares c) = lit≤ tt
width_most Unlisted = lit≤ tt

pub width_some : (c : Command) → 4 ≤ width_of c
width_some (Reads part) = lit≤ tt
width_some (Writes c) = omega (arith, data_some c)
width_some (Bares c) = lit≤ tt
width_some Unlisted = lit≤ tt
