-- A write that stores six bytes as they are sent: by its rules every bit is stored, none kept and none made 1, so a byte becomes as sent.
-- Assumes nothing.
use mathlib.Core.Path.{◌≡◌, refl, sym, ap, ap₂, ◌∙◌}
use mathlib.Core.Bool.{true, false≢true}
use mathlib.Core.List.{List, [], ◌∷◌}
use Prim.Native.Nat.{ℕ, zero, suc, ◌-◌, ◌%◌, ◌<◌}
use native.Mathlib.Omega.{arith}
use lib.Bits.{bit_and, bit_or, and_zero_l, and_zero_r, or_zero_r, and_mask}
use lib.ListN.{get_or}
use Rattle.records.specs.declared.commands.Write.{Write}
use Rattle.records.specs.declared.commands.Write.TheVariants.{Wrcfga, Wrcfgb, Wrrr, Clrflag, Clovuv, Wrpwma, Wrpwmb, Wrcmcfg, Wrcmcellt, Wrcmgpiot, Clrcmflag}
use Rattle.writes.specs.declared.writes.Rules.{Rules}
use Rattle.records.specs.Record.{anew}
use Rattle.records.specs.Commands.{data_size}
use Rattle.writes.specs.Writes.{rules_of, stores_whole, changed, by_rules}
use Rattle.records.proofs.Anew.{anew-same}

-- six bytes of one value
abbrev pub six : ℕ → List ℕ
six n = n ∷ n ∷ n ∷ n ∷ n ∷ n ∷ []

each : (n i : ℕ) → i < 6 → get_or (six n) i 0 ≡ n
each n zero h = refl
each n (suc zero) h = refl
each n (suc (suc zero)) h = refl
each n (suc (suc (suc zero))) h = refl
each n (suc (suc (suc (suc zero)))) h = refl
each n (suc (suc (suc (suc (suc zero))))) h = refl
each n (suc (suc (suc (suc (suc (suc i)))))) h = absurd (omega arith)

each_of : (n i : ℕ) → i < 6 → {bytes : List ℕ} → bytes ≡ six n → get_or bytes i 0 ≡ n
each_of n i h e = ap (λ (bytes : List ℕ). get_or bytes i 0) e ∙ each n i h

pub as_sent : (rules : Rules) → rules.stored ≡ six 255 → rules.kept ≡ six 0 → rules.ones ≡ six 0
    → (sent : List ℕ) (i old : ℕ) → i < 6 → get_or sent i 0 % 256 ≡ changed rules sent i old
unfolding changed
as_sent rules stored kept ones sent i old h =
    let s = get_or sent i 0 in
    let mask = 255 - bit_and s (get_or rules.clearable i 0) in
    sym
    (ap₂ (λ (x y : ℕ). bit_or (bit_or (bit_and s x) (bit_and old (bit_and y mask))) (get_or rules.ones i 0)) (each_of 255 i h stored) (each_of 0 i h kept)
    ∙ ap₂ bit_or (ap₂ bit_or (and_mask s 8) (ap (bit_and old) (and_zero_l mask) ∙ and_zero_r old) ∙ or_zero_r (s % 256)) (each_of 0 i h ones)
    ∙ or_zero_r (s % 256))

pub stored-whole : (what : Write) → stores_whole what ≡ true → (sent r : List ℕ)
    → anew (λ i old. get_or sent i 0 % 256) (rules_of what).at 6 r ≡ by_rules what sent r
unfolding by_rules
stored-whole Wrcfga e sent r = absurd (false≢true e)
stored-whole Wrcfgb e sent r = anew-same _ _ _ 6 r (λ i h. as_sent (rules_of Wrcfgb) refl refl refl sent i _ h)
stored-whole Wrrr e sent r = anew-same _ _ _ 6 r (λ i h. as_sent (rules_of Wrrr) refl refl refl sent i _ h)
stored-whole Clrflag e sent r = absurd (false≢true e)
stored-whole Clovuv e sent r = absurd (false≢true e)
stored-whole Wrpwma e sent r = anew-same _ _ _ 6 r (λ i h. as_sent (rules_of Wrpwma) refl refl refl sent i _ h)
stored-whole Wrpwmb e sent r = absurd (false≢true e)
stored-whole Wrcmcfg e sent r = anew-same _ _ _ 6 r (λ i h. as_sent (rules_of Wrcmcfg) refl refl refl sent i _ h)
stored-whole Wrcmcellt e sent r = absurd (false≢true e)
stored-whole Wrcmgpiot e sent r = absurd (false≢true e)
stored-whole Clrcmflag e sent r = absurd (false≢true e)

-- such a write has six
pub whole_is_six : (what : Write) → stores_whole what ≡ true → data_size what ≡ 6
whole_is_six Wrcfga e = refl
whole_is_six Wrcfgb e = refl
whole_is_six Wrrr e = refl
whole_is_six Clrflag e = refl
whole_is_six Clovuv e = refl
whole_is_six Wrpwma e = refl
whole_is_six Wrpwmb e = refl
whole_is_six Wrcmcfg e = refl
whole_is_six Wrcmcellt e = refl
whole_is_six Wrcmgpiot e = refl
whole_is_six Clrcmflag e = absurd (false≢true e)
